-- The laws of pairs and triples.
use Rattle.std.proofs.Common.{ℕ}
use Rattle.wenc_base.specs.Prelude.{Form, Lawful, Reader, Sound, last, last_tells, pair, then}
use Rattle.wenc_base.specs.Prelude.{then_tells}
use Rattle.wenc_sections.specs.Pairs.{triple}
use Rattle.wenc_sections.specs.reading.Pairs.{read_pair, read_triple}

module _ {A B : Type 0} {one : Form A} {two : Form B} where
  pub pair_lawful : {read : ℕ → Reader A} {next : ℕ → Reader B} → ((v : A) → Lawful (one v) read v)
      → ((w : B) → Lawful (two w) next w)
      → (p : A × B) → Lawful (pair one two p) (λ fuel. read_pair (read fuel) (next fuel)) p
  pair_lawful first second p = then _ (first p.0) (last _ (second p.1))

  pub pair_sound : {read : Reader A} {next : Reader B} → Sound one read → Sound two next
      → Sound (pair one two) (read_pair read next)
  pair_sound first second = then_tells _ first
      (λ v. last_tells (λ w. (v, w)) second (λ w middle rest r bytes p. (middle, p, r)))

module _ {A B C : Type 0} {one : Form A} {two : Form B} {three : Form C} where
  pub triple_lawful : {read : ℕ → Reader A} {next : ℕ → Reader B} {end : ℕ → Reader C}
      → ((v : A) → Lawful (one v) read v) → ((w : B) → Lawful (two w) next w)
      → ((x : C) → Lawful (three x) end x)
      → (t : A × B × C) → Lawful (triple one two three t) (λ fuel. read_triple (read fuel) (next fuel) (end fuel)) t
  triple_lawful first second third t = then _ (first t.0) (then _ (second t.1) (last _ (third t.2)))

  pub triple_sound : {read : Reader A} {next : Reader B} {end : Reader C} → Sound one read
      → Sound two next → Sound three end → Sound (triple one two three) (read_triple read next end)
  triple_sound first second third =
      then_tells _ first (λ v. then_tells _ second
      (λ w. last_tells (λ x. (v, w, x)) third (λ x b rest r a q bytes p. (a, p, (b, q, r)))))
