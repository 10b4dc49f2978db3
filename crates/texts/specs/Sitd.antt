-- SITD: a description of the site.
use Rattle.std.specs.Prelude.{None, codes}
use Rattle.kinds.specs.Ended.{text_kind}
use Rattle.kinds.specs.Kind.{KindSpec}

-- a text of any length, CODAR's szSiteDescription
abbrev pub sitd_kind : KindSpec
sitd_kind = text_kind (codes "SITD") None
