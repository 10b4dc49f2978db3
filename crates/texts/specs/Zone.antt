-- ZONE: a label of the time zone.
use Rattle.std.specs.Prelude.{codes}
use Rattle.kinds.specs.Ended.{text_kind}
use Rattle.kinds.specs.Kind.{KindSpec}
use Rattle.texts.specs.Limit.{short_text}

-- a text of at most 255 bytes, CODAR's szTimeZone
abbrev pub zone_kind : KindSpec
zone_kind = text_kind (codes "ZONE") short_text
