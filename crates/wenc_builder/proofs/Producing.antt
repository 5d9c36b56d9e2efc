-- A producers section that is held, as the item that it is.
use Rattle.std.proofs.Common.{◌≡◌, true, is_none, ℕ, List, ◌++◌, length, Result, Ok, Err, [], refl}
use Rattle.std.specs.Result.{IfErr, OnOk}
use Rattle.wenc_base.specs.Prelude.{AreBytes, Contains, HolderState, IsWarranted, NoCause, Piece}
use Rattle.wenc_base.specs.Prelude.{Producers, custom_lawful, held_text, is_finished}
use Rattle.wenc_base.specs.Prelude.{name as name_form, producers_field, producers_held}
use Rattle.wenc_base.specs.Prelude.{producers_label, serves_itself, still_warranted, unsigned_text}
use Rattle.wenc_base.specs.Prelude.{◌▸◌}
use Rattle.wenc_base.specs.declared.fault.Fault.{Fault}
use Rattle.wenc_builder.specs.Prelude.{Agree, AppendsSection, Buffered, CustomItem}
use Rattle.wenc_builder.specs.Prelude.{EntersWithoutIndex, IsBuilder, Item, Spaced, State}
use Rattle.wenc_builder.specs.Prelude.{builder_view, custom_entry, item, producers_entry}
use Rattle.wenc_builder.specs.Prelude.{with_bytes}
use Rattle.wenc_base.proofs.Bytes.{last_below}
use Rattle.wenc_builder.proofs.OwnSections.{stands_as, stood_nowhere}
use Rattle.wenc_builder.proofs.Entered.{without_index_enters}
use Rattle.wenc_builder.proofs.Standing.{without_index_outcome}
use Rattle.wenc_builder.proofs.Texts.{item_piece, plain_serves}

-- the section as it is written, after its id
abbrev pub written : HolderState → Piece
written h = 0x00 ▸ producers_held h

abbrev pub held_item : HolderState → Item
held_item h = CustomItem (record { label = producers_label; bytes = held_text h })

module _ (h : HolderState) where
  -- what is written consists of bytes
  item_fits : (r : Result (Unit {0}) Fault) → OnOk r (written h).Fits → OnOk r (AreBytes (written h).text) → OnOk r (item (held_item h)).Fits
  item_fits (Ok u) fits bytes =
      let content : List ℕ = (name_form producers_label).text ++ held_text h in
      (fits.0, (fits.1.0, last_below (name_form producers_label).text (held_text h) (last_below (unsigned_text (length content)) content bytes.1)))
  item_fits (Err f) fits bytes = tt

  item_free : (r : Result (Unit {0}) Fault) → OnOk r (item (held_item h)).Fits → OnOk r (NoCause (item (held_item h)).Cause)
  item_free (Ok u) fits = (custom_lawful (record { label = producers_label; bytes = held_text h })).free fits
  item_free (Err f) fits = tt

  -- what is finished is refused for want of memory alone
  item_warranted : is_finished h ≡ true → (r : Result (Unit {0}) Fault) → IfErr r (IsWarranted (written h).Cause)
      → IfErr r (IsWarranted (item (held_item h)).Cause)
  item_warranted finished (Ok u) w = tt
  item_warranted finished (Err f) w = still_warranted (written h).Cause (item (held_item h)).Cause (λ fault c. let unfinished = c.1 in cc) f w

  module _ (b : Buffered) (s : Spaced) (next : Buffered) (result : Result (Unit {0}) Fault) (settled : is_none b.writing ≡ true)
      (lead : AppendsSection b next result (with_bytes (written h) [])) (bytes : OnOk result (AreBytes (written h).text)) where
    stood : AppendsSection b next result (written h)
    stood = stands_as b next result plain_serves lead

    fits : OnOk result (item (held_item h)).Fits
    fits = item_fits result stood.fits bytes

    pub still_builder : IsBuilder b s → IsBuilder next s
    still_builder i = without_index_outcome b s i settled next result (item (held_item h)) (item_piece (held_item h) serves_itself) fits stood.ok stood.err

    module _ (old : State) (agree : Agree b.writing s.taking) (view : builder_view b s ≡ old) where
      pub section_enters : is_finished h ≡ true → EntersWithoutIndex old (builder_view next s) result (custom_entry producers_label (held_text h))
      section_enters finished =
          without_index_enters old (builder_view next s) result (custom_entry producers_label (held_text h))
          (record { alone = refl; defined = refl; named = refl }) (serves_itself {p = item (held_item h)})
          (stood_nowhere b next s old result (item (held_item h)) agree view settled
          (record {
            ok = stood.ok;
            fits = fits;
            free = item_free result fits;
            err = stood.err;
            warranted =
                item_warranted finished result stood.warranted;
          }))

      -- with the fields that it has
      pub fields_enter : (fields : List Producers) → Contains producers_field h fields
          → EntersWithoutIndex old (builder_view next s) result (producers_entry fields)
      fields_enter fields holds = rw (← holds.count, holds.body) at (section_enters holds.finished)
