use Rattle.std.proofs.Common.{◌≡◌, ◌++◌, length, List, ℕ, None, refl, sym, subst, ◌∙◌, inl}
use Rattle.std.proofs.lemmas.Bool.{eqb-true}
use Rattle.std.proofs.lemmas.List.{take_at}
use Rattle.wenc_base.specs.Prelude.{AreBytes, either_free}
use Rattle.wenc_base.proofs.Bytes.{last_below}
use Rattle.wenc_builder.proofs.Bytes.{first_below}
use Rattle.wenc_builder.proofs.Laid.{stood_alone, no_kind, without_gap}
use Rattle.wenc_builder.proofs.builder.buffer.Buffer.add_section.Goals as goal

pub returns-then-is_empty-clause-stood : goal.returns-then-is_empty-clause-stood
returns-then-is_empty-clause-stood g c =
    let b = c.self.inside in
    let r = c.bytes.inside in
    let first : List ℕ = r.first.now in
    let lead = c.in_ok-keep_all.ensures in
    let text : List ℕ = (g.E.Encode.piece c.args.lead.now).text in
    let kind : b.kind ≡ None = no_kind b.kind (sym c.if-is_none.ensures) in
    let same : first ≡ c.args.bytes.now =
    sym (without_gap first r.head r.more.now r.gap c.if-bytes-eq0.true c.bytes.invariant.1 (eqb-true _ _ (sym c.if-is_empty.ensures))) ∙ c.bytes.view_is in
    record {
      ok = rw (kind, ← same) (stood_alone b.holder c.keep_all.new.self (text ++ first) b.closed_len c.kept_len-self-inside.result b.earlier
          c.args.self.now (rw kind at c.self.invariant) (rw kind at c.self.view_is) c.requires lead.ok c.kept_len-self-inside.ensures);
      fits = (lead.fits.0, rw (← same) (last_below text first lead.bytes));
      free = either_free (λ fault own. lead.free fault (inl own)) (λ fault never. never);
      err = tt;
      warranted = tt;
    }

pub returns-then-is_empty-clause-bytes : goal.returns-then-is_empty-clause-bytes
returns-then-is_empty-clause-bytes g c =
    let first : List ℕ = c.bytes.inside.first.now in
    let text : List ℕ = (g.E.Encode.piece c.args.lead.now).text in
    subst AreBytes (take_at text first (length text) refl) (first_below (length text) (text ++ first) c.in_ok-keep_all.ensures.bytes)
