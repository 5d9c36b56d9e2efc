-- Readers of pairs and triples.
use Rattle.wenc_base.specs.Readers.{Reader, ◌>>=◌, give}

abbrev pub read_pair : {A B : Type 0} → Reader A → Reader B → Reader (A × B)
read_pair one two = one >>= λ v. two >>= λ w. give (v, w)

abbrev pub read_triple : {A B C : Type 0} → Reader A → Reader B → Reader C → Reader (A × B × C)
read_triple one two three = one >>= λ v. two >>= λ w. three >>= λ x. give (v, w, x)
