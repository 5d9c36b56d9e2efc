-- Forms of values that come in threes.
use Rattle.wenc_base.specs.Piece.{Form, ◌⨾◌}

-- three values in order
abbrev pub triple : {A B C : Type 0} → Form A → Form B → Form C → Form (A × B × C)
triple one two three t = one t.0 ⨾ two t.1 ⨾ three t.2
