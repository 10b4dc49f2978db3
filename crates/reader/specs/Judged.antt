-- A judged file, as the definitions see it.
use Rattle.std.specs.Prelude.{ℕ, List}
use Rattle.reader.specs.declared.file.JudgedFile.{JudgedFile}

-- the bytes of a judged file
abbrev pub judged_bytes : JudgedFile → List ℕ
judged_bytes file = file.bytes.now
