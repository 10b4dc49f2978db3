-- Texts that end before a zero, without numbers.
use Rattle.std.specs.Prelude.{ℕ, ◌+◌, if◌then◌else◌, List, [], ◌∷◌, ◌++◌, length, take, Some, None, Option, Ok, Err, Result, nat_lt}
use Rattle.std.specs.List.{prefix_len}
use Rattle.faults.specs.declared.fault.Fault.{Fault}
use Rattle.faults.specs.declared.refusal.Refusal.TheVariants.{TextWithoutZero}
use Rattle.faults.specs.Faults.{fault}
use Rattle.kinds.specs.Kind.{Outcome, accepted, refused, Output, bytes, declined, KindSpec}

-- how many bytes stand before the first zero, or all of them
abbrev pub before_zero : List ℕ → ℕ
before_zero b = prefix_len (nat_lt 0) b

-- the bytes among which the zero has to be: the first m + 1 for a text of at most m bytes, all for
-- one of any length
abbrev pub front : Option ℕ → List ℕ → List ℕ
front (Some m) b = take (m + 1) b
front None b = b

-- the text in these bytes, all of them being looked at
abbrev pub text_outcome : List ℕ → Outcome
text_outcome b =
    if nat_lt (before_zero b) (length b) then accepted [] 0 (before_zero b) (before_zero b + 1)
    else refused TextWithoutZero 0

-- the length of such a text
abbrev pub ended_length : List ℕ → Result ℕ Fault
ended_length b =
    if nat_lt (before_zero b) (length b) then Ok (before_zero b) else Err (fault TextWithoutZero 0)

-- data are read as a text
abbrev pub text_reads : Option ℕ → List ℕ → Outcome
text_reads l b = text_outcome (front l b)

-- a text with a zero in it is declined at the first; else it is written with a zero after it
abbrev pub closed_text : List ℕ → Output
closed_text text =
    if nat_lt (before_zero text) (length text) then declined (before_zero text)
    else bytes (text ++ (0 ∷ []))

-- a text that is too long is declined before that, at its limit
abbrev pub text_output : Option ℕ → List ℕ → Output
text_output (Some m) text = if nat_lt m (length text) then declined m else closed_text text
text_output None text = closed_text text

-- a text is written, and there are no numbers
abbrev pub text_writes : Option ℕ → List ℕ → List ℕ → Output
text_writes l [] text = text_output l text
text_writes l (x ∷ xs) text = declined 0

-- the kind of texts with that key and limit
abbrev pub text_kind : List ℕ → Option ℕ → KindSpec
text_kind key l = record { key = key; reads = text_reads l; writes = text_writes l }
