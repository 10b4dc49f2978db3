-- A place of a table before it is filled.
use Rattle.reader.specs.declared.blocks.Entry.{Entry}

abbrev pub no_entry : Entry
no_entry = record { key = 0; place = 0; size = 0 }
