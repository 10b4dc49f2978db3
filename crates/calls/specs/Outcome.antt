-- How a call came out, as it is printed.
use Rattle.std.specs.Prelude.{ℕ, List, ◌++◌, Ok, Err, Result, codes, decimal, string_bytes}
use Rattle.faults.specs.declared.fault.Fault.{Fault}
use Rattle.faults.specs.Numbers.{number_of, layer_number}
use Rattle.format.specs.declared.judging.Layout.{Layout}
use Rattle.reader.specs.declared.blocks.Entry.{Entry}
use Rattle.calls.specs.Listed.{word_text}
use Rattle.calls.specs.declared.outcome.Outcome.{Outcome}
use Rattle.calls.specs.declared.outcome.Outcome.TheVariants.{Done, Refused, Number, Span, Judged, Held, NoFile, Head, Items}

-- a call that is accepted is done, and another is refused
abbrev pub outcome_of : Result (Unit {0}) Fault → Outcome
outcome_of (Ok done) = Done
outcome_of (Err fault) = Refused fault

-- the same of a call that answers a number
abbrev pub number_or_refused : Result ℕ Fault → Outcome
number_or_refused (Ok n) = Number n
number_or_refused (Err fault) = Refused fault

-- one that answers a place and a length
abbrev pub span_or_refused : Result (ℕ × ℕ) Fault → Outcome
span_or_refused (Ok span) = Span span.0 span.1
span_or_refused (Err fault) = Refused fault

-- one that answers a block, by its head
abbrev pub head_or_refused : Result Entry Fault → Outcome
head_or_refused (Ok entry) = Head entry
head_or_refused (Err fault) = Refused fault

-- and one that judges
abbrev pub judged_or_refused : Result Layout Fault → Outcome
judged_or_refused (Ok layout) = Judged layout
judged_or_refused (Err fault) = Refused fault

-- what stands after the name of the call: ok and what was answered, or the refusal by its numbers
abbrev pub outcome_text : Outcome → List ℕ
outcome_text Done = codes " ok"
outcome_text (Refused f) =
    codes " refused " ++ (decimal (number_of f.refusal) ++ (codes " layer " ++ (decimal (layer_number f.layer)
    ++ (codes " block " ++ (decimal f.block ++ (codes " place " ++ decimal f.place))))))
outcome_text (Number n) = codes " ok " ++ decimal n
outcome_text (Span place length) = codes " ok " ++ (decimal place ++ (codes " " ++ decimal length))
outcome_text (Judged l) =
    codes " ok version " ++ (decimal l.version ++ (codes " start " ++ (decimal l.start ++ (codes " blocks " ++ decimal l.blocks))))
outcome_text (Held length) = codes " ok file " ++ decimal length
outcome_text NoFile = codes " ok no file"
outcome_text (Head e) = codes " ok " ++ (word_text e.key ++ (codes " " ++ (decimal e.place ++ (codes " " ++ decimal e.size))))
outcome_text (Items items) = codes " ok" ++ string_bytes items

-- line and call, and how it came out: 3 put refused 15 layer 5 block 0 place 255
abbrev pub answer_text : ℕ → List ℕ → Outcome → List ℕ
answer_text n verb outcome = decimal n ++ (codes " " ++ (verb ++ outcome_text outcome))
