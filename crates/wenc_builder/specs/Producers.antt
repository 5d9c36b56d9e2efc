-- The producers section that a builder adds (tool conventions, "Producers Section").
use Rattle.std.specs.Prelude.{List}
use Rattle.wenc_base.specs.Forms.{list}
use Rattle.wenc_base.specs.Producers.{Producers, producers_field, producers_label}
use Rattle.wenc_builder.specs.Entry.{Entry, custom_entry}

-- the entry of a section with these fields
abbrev pub producers_entry : List Producers → Entry
producers_entry fields = custom_entry producers_label (list producers_field fields).text
