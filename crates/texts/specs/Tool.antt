-- TOOL: name and version of a program that made or worked on the file.
use Rattle.std.specs.Prelude.{codes}
use Rattle.kinds.specs.Ended.{text_kind}
use Rattle.kinds.specs.Kind.{KindSpec}
use Rattle.texts.specs.Limit.{short_text}

-- a text of at most 255 bytes, CODAR's szToolNameVer
abbrev pub tool_kind : KindSpec
tool_kind = text_kind (codes "TOOL") short_text
