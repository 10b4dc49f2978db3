-- CITY: the time zone by the name of a city.
use Rattle.std.specs.Prelude.{codes}
use Rattle.kinds.specs.Ended.{text_kind}
use Rattle.kinds.specs.Kind.{KindSpec}
use Rattle.texts.specs.Limit.{short_text}

-- a text of at most 255 bytes, CODAR's szTimeZone
abbrev pub city_kind : KindSpec
city_kind = text_kind (codes "CITY") short_text
