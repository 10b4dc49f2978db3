-- The message of an error in a call's arguments.
use Rattle.std.specs.Prelude.{ℕ, List, codes}
use Rattle.script.specs.declared.argument_error.ArgumentError.{ArgumentError}
use Rattle.script.specs.declared.argument_error.ArgumentError.TheVariants.{Missing, TooMany, NoNumber, NoBytes, OddDigits, NoDigit, NoKey, NoKind, OutOfMemory}

abbrev pub argument_error_text : ArgumentError → List ℕ
argument_error_text Missing = codes "a word is missing"
argument_error_text TooMany = codes "more words than the call takes"
argument_error_text NoNumber = codes "no decimal number that fits"
argument_error_text NoBytes = codes "no bytes: neither x and digits, nor a text in quotes, nor @ and a path"
argument_error_text OddDigits = codes "an odd count of hexadecimal digits"
argument_error_text NoDigit = codes "no hexadecimal digit"
argument_error_text NoKey = codes "no key of four bytes"
argument_error_text NoKind = codes "no kind of block"
argument_error_text OutOfMemory = codes "out of memory"
