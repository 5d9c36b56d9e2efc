-- What keeps a buffer's layout.
use Rattle.std.proofs.Common.{◌≡◌, ℕ, ◌+◌, ◌-◌, ◌<◌, ◌≤◌, ◌^◌, inl, inr, false, List, [], ◌∷◌, ◌++◌, length, take, drop, Option, Some, None}
use Rattle.std.proofs.Common.{Result, Ok, Err, is_none, is_some, refl, sym, arith, append_assoc, length-append, length-drop, length-take-le}
use Rattle.std.proofs.Common.{take-append-drop, ap, subst, ◌∙◌}
use Rattle.std.proofs.lemmas.List.{append-nil, take_at, drop_at, take_all, take-append-le, drop-append-le}
use Rattle.std.proofs.lemmas.Bool.{ne_eqb, eq-eqb}
use Rattle.std.specs.Result.{OnOk, IfErr}
use Rattle.wenc_base.specs.Prelude.{AddCause, BeginsMember, Extends, ExtendsListed, HolderState}
use Rattle.wenc_base.specs.Prelude.{NoCause, Piece, all_bytes, content_size, either, filled}
use Rattle.wenc_base.specs.Prelude.{holding, is_finished, member_appended, member_begun}
use Rattle.wenc_base.specs.Prelude.{no_room_in_holder, number_size, still_warranted, with_kept}
use Rattle.wenc_base.specs.declared.fault.Fault.{Fault}
use Rattle.wenc_base.specs.declared.holder.openings.Opening.{Opening}
use Rattle.wenc_base.specs.declared.fault.Fault.TheVariants.{Memory, TooMany, TooLarge, Unfinished}
use Rattle.wenc_base.proofs.Groups.{size_1}
use Rattle.wenc_builder.specs.Prelude.{Buffered, IsLaidOut, NoRoom, OpenSection, OpensAnother}
use Rattle.wenc_builder.specs.Prelude.{SectionCause, SectionFits, SectionIsIn, SectionsState}
use Rattle.wenc_builder.specs.Prelude.{buffer_appended, buffer_view, buffer_with, buffered_content}
use Rattle.wenc_builder.specs.Prelude.{entered, entered_at, kept_before, kind_id, open_head}
use Rattle.wenc_builder.specs.Prelude.{open_text_of, section_appended, sections_text}
use Rattle.wenc_builder.specs.laws.Caused.{cause_is}
use Rattle.wenc_builder.specs.inside.Layout.{open_view}
use Rattle.wenc_builder.specs.inside.Layout.{MembersAreIn, BegunIsIn, EarlierIsIn, IsApart}
use Rattle.wenc_builder.specs.declared.builder.earlier.Earlier.{Earlier}
use Rattle.wenc_builder.specs.declared.builder.kind.Kind.{Kind}
use Rattle.wenc_builder.proofs.Gap.{headed, gap_filled}

size_of_one : number_size 1 ≡ 1
size_of_one = size_1 1 (omega arith)

-- ---- an item after a gap

-- nothing keeps an empty holder from an opening without a lead
pub opens : (kept : List ℕ) (new : HolderState) (outcome : Result (Unit {0}) Fault) → BeginsMember (holding kept 0 []) new outcome []
    → IfErr outcome (AddCause (holding kept 0 []) [] (λ _. ⊥)) → outcome ≡ Ok tt
opens kept new (Ok u) o none = refl
opens kept new (Err (Memory e)) o none = absurd (elim none [ inl own ↦ own | inr more ↦ elim more [ inl count ↦ count | inr stopped ↦ cc ] ])
opens kept new (Err TooMany) o none = absurd (elim none [ inl own ↦ own | inr more ↦ elim more [ inl count ↦ omega (arith, count) | inr stopped ↦ cc ] ])
opens kept new (Err TooLarge) o none =
    absurd (elim none [ inl own ↦ own | inr more ↦ elim more [ inl count ↦ omega (arith, count, size_of_one) | inr stopped ↦ cc ] ])
opens kept new (Err Unfinished) o none = absurd (elim none [ inl own ↦ own | inr more ↦ elim more [ inl count ↦ count | inr stopped ↦ cc ] ])

none_is_written_at : (h : HolderState) (closed_len : ℕ) (kind : Option Kind) (earlier : Option Earlier) (opening : Option Opening)
    → h.opening ≡ opening → (buffer_view h closed_len kind earlier).writing ≡ None → (earlier ≡ None) × (h.opening ≡ None)
none_is_written_at h closed_len kind None None o e = (refl, o)
none_is_written_at h closed_len kind None (Some x) o e = let written = rw o at e in cc
none_is_written_at h closed_len kind (Some x) opening o e = cc

none_is_written : (h : HolderState) (closed_len : ℕ) (kind : Option Kind) (earlier : Option Earlier)
    → (buffer_view h closed_len kind earlier).writing ≡ None → (earlier ≡ None) × (h.opening ≡ None)
none_is_written h closed_len kind earlier e = none_is_written_at h closed_len kind earlier h.opening refl e

-- the layout, where all that was there is kept and a member is begun after a gap
went_apart : (h : HolderState) (gap : List ℕ) (closed_len : ℕ) (kind : Option Kind) (k : Kind) (count items_end : ℕ)
    → MembersAreIn kind closed_len h → length gap ≡ 11 → count ≡ h.count → content_size h.count (length h.body) < 2 ^ 32
    → items_end ≡ length (all_bytes h) → OpensAnother (open_view kind h.count h.body) (kind_id k)
    → IsApart (member_begun (holding (all_bytes h ++ gap) 0 []) []) (Some k)
    (record { kind = kind; count = count; closed_len = closed_len; items_end = items_end })
went_apart h gap closed_len None k count items_end m g c f s d = record {
  first = refl;
  gap = omega (arith, s, g, length-append (all_bytes h) gap);
  section = rw (s, m.1) (omega (arith, m.0, length-append h.kept []));
  another = tt;
  counted = rw c (omega (arith, f));
  fits = tt;
}
went_apart h gap closed_len (Some o) k count items_end m g c f s d = record {
  first = refl;
  gap = omega (arith, s, g, length-append (all_bytes h) gap);
  section = omega (arith, s, m, length-append h.kept h.body);
  another = d;
  counted = rw c (omega (arith, f));
  fits = rw (c, s, take_at (all_bytes h) gap (length (all_bytes h)) refl, ← m, drop_at h.kept h.body (length h.kept) refl) f;
}

pub begun : (h opened new : HolderState) (gap : List ℕ) (closed_len : ℕ) (kind : Option Kind) (earlier : Option Earlier) (k : Kind)
    (count items_end : ℕ) (now : Buffered) (outcome : Result (Unit {0}) Fault) → IsLaidOut h closed_len kind earlier
    → buffer_view h closed_len kind earlier ≡ now → now.writing ≡ None → OpensAnother now.settled.current (kind_id k) → length gap ≡ 11
    → count ≡ h.count → content_size h.count (length h.body) < 2 ^ 32 → items_end ≡ length (all_bytes h)
    → opened ≡ holding (all_bytes h ++ gap) 0 [] → BeginsMember opened new outcome [] → outcome ≡ Ok tt
    → IsLaidOut new closed_len (Some k) (Some (record { kind = kind; count = count; closed_len = closed_len; items_end = items_end }))
begun h opened new gap closed_len kind earlier k count items_end now outcome l view none apart g c f s is o accepted =
    record { indices = rw new_is (went_apart h gap closed_len kind k count items_end members.0 g c f s other) }
  where
    idle : (earlier ≡ None) × (h.opening ≡ None)
    idle = none_is_written h closed_len kind earlier (ap (λ (b : Buffered). b.writing) view ∙ none)

    members : MembersAreIn kind closed_len h × BegunIsIn h.opening h.count (length h.body)
    members = (rw idle.0 at l).indices

    other : OpensAnother (open_view kind h.count h.body) (kind_id k)
    other = rw (← view, idle.0, idle.1) at apart

    new_is : new ≡ member_begun (holding (all_bytes h ++ gap) 0 []) []
    new_is = rw (accepted, is) at o.ok

-- ---- nothing is against an item that was begun

pub neighbour_free : (outcome : Result (Unit {0}) Fault) (h : HolderState) (closed_len : ℕ) (kind : Option Kind) (earlier : Option Earlier)
    (k : Kind) (id : ℕ) (now : Buffered) → buffer_view h closed_len kind earlier ≡ now → now.writing ≡ None
    → kind ≡ Some k → kind_id k ≡ id → OnOk outcome ((fault : Fault) → AddCause h [] (λ _. ⊥) fault → ⊥)
    → OnOk outcome ((fault : Fault) → SectionCause (entered now.settled id []).current fault → ⊥)
neighbour_free (Err fault) h closed_len kind earlier k id now view none is same free = tt
neighbour_free (Ok u) h closed_len kind earlier k id now view none is same free = λ fault c.
    let idle = none_is_written h closed_len kind earlier (ap (λ (b : Buffered). b.writing) view ∙ none) in
    let Stands : Fault → Type 0 = λ f. SectionCause (entered now.settled id []).current f in
    elim (cause_is (entered now.settled id []).current fault c) [
      | inl e ↦
          let many : Stands TooMany = subst Stands e c in
          let counted : 2 ^ 32 ≤ h.count + 1 = rw (← view, idle.0, idle.1, is, same, eq-eqb id id refl) at many in
          free TooMany (inr (inl counted))
      | inr e ↦
          let large : Stands TooLarge = subst Stands e c in
          let sized : 2 ^ 32 ≤ content_size (h.count + 1) (length (h.body ++ [])) = rw (← view, idle.0, idle.1, is, same, eq-eqb id id refl) at large in
          free TooLarge (inr (inl sized))
    ]

one_free : (id : ℕ) (fault : Fault) → SectionCause (Some (record { id = id; count = 1; body = [] })) fault → ⊥
one_free id (Memory e) h = h
one_free id TooMany h = omega (arith, h)
one_free id TooLarge h = omega (arith, h, size_of_one)
one_free id Unfinished h = h

apart_free_at : (closed : List ℕ) (o : Option OpenSection) (id : ℕ) → OpensAnother o id → (fault : Fault)
    → SectionCause (entered_at closed o id []).current fault → ⊥
apart_free_at closed None id d fault c = one_free id fault c
apart_free_at closed (Some o) id d fault c = one_free id fault (rw (ne_eqb o.id id d) at c)

pub apart_free : (outcome : Result (Unit {0}) Fault) (s : SectionsState) (id : ℕ) → OpensAnother s.current id
    → OnOk outcome (NoCause (SectionCause (entered s id []).current))
apart_free (Ok u) s id d = apart_free_at s.closed s.current id d
apart_free (Err fault) s id d = tt

-- ---- more bytes

some_is_written_at : (h : HolderState) (closed_len : ℕ) (kind : Option Kind) (earlier : Option Earlier) (opening : Option Opening)
    → h.opening ≡ opening → EarlierIsIn h closed_len kind earlier
    → is_none (buffer_view h closed_len kind earlier).writing ≡ false → is_finished h ≡ false
some_is_written_at h closed_len kind None None o l e = let written = rw o at e in cc
some_is_written_at h closed_len kind None (Some x) o l e = rw o refl
some_is_written_at h closed_len kind (Some x) opening o l e = rw (ap (λ (x : HolderState). x.opening) l.first) refl

pub some_is_written : (h : HolderState) (closed_len : ℕ) (kind : Option Kind) (earlier : Option Earlier) (now : Buffered)
    → IsLaidOut h closed_len kind earlier → buffer_view h closed_len kind earlier ≡ now
    → is_none now.writing ≡ false → is_finished h ≡ false
some_is_written h closed_len kind earlier now l view e = some_is_written_at h closed_len kind earlier h.opening refl l.indices (rw (← view) at e)

all_of_it : (n size : ℕ) (k : Kind) (closed body text : List ℕ) → 1 ≤ n
    → SectionCause (entered (record { closed = closed; current = Some (record { id = kind_id k; count = n - 1; body = take size body }) })
    (kind_id k) (drop size body ++ text)).current TooLarge
    → 2 ^ 32 ≤ content_size n (length (body ++ text))
all_of_it n size k closed body text some large =
    let next : n - 1 + 1 ≡ n = omega arith in
    rw (eq-eqb (kind_id k) (kind_id k) refl, ← append_assoc (take size body) (drop size body) text, take-append-drop size body, next) at large

behind_gap : (ek : Option Kind) (k : Kind) (count : ℕ) (items closed body : List ℕ) → OpensAnother (open_view ek count []) (kind_id k)
    → SectionCause (entered (record { closed = closed; current = open_view ek count items }) (kind_id k) body).current TooLarge
    → 2 ^ 32 ≤ content_size 1 (length body)
behind_gap None k count items closed body d large = large
behind_gap (Some o) k count items closed body d large = rw (ne_eqb (kind_id o) (kind_id k) d) at large

large_at : (h : HolderState) (text : List ℕ) (closed_len : ℕ) (kind : Option Kind) (earlier : Option Earlier) (opening : Option Opening)
    → h.opening ≡ opening → EarlierIsIn h closed_len kind earlier → is_finished h ≡ false
    → SectionCause (buffered_content (buffer_appended (buffer_view h closed_len kind earlier) text)).current TooLarge
    → 2 ^ 32 ≤ content_size h.count (length (h.body ++ text))
large_at h text closed_len kind None None o l f large = let finished = rw o at f in cc
large_at h text closed_len None None (Some x) o l f large = let none = l.0.2 in cc
large_at h text closed_len (Some k) None (Some x) o l f large = let indices =
    rw o at l.1 in all_of_it h.count x.member_start k (take closed_len h.kept) h.body text indices.1 (rw o at large)
large_at h text closed_len None (Some e) opening o l f large = absurd l.another
large_at h text closed_len (Some k) (Some e) opening o l f large =
    let one : h.count ≡ 1 = ap (λ (x : HolderState). x.count) l.first in
    rw one (behind_gap e.kind k e.count _ _ (h.body ++ text) l.another large)

part_of_it : (n size : ℕ) (k : Kind) (closed body text : List ℕ) → 1 ≤ n → 2 ^ 32 ≤ content_size n (length (body ++ text))
    → SectionCause (entered (record { closed = closed; current = Some (record { id = kind_id k; count = n - 1; body = take size body }) })
    (kind_id k) (drop size body ++ text)).current TooLarge
part_of_it n size k closed body text some large =
    let next : n - 1 + 1 ≡ n = omega arith in
    rw (eq-eqb (kind_id k) (kind_id k) refl, ← append_assoc (take size body) (drop size body) text, take-append-drop size body, next) large

one_of_it : (ek : Option Kind) (k : Kind) (count : ℕ) (items closed body : List ℕ) → OpensAnother (open_view ek count []) (kind_id k)
    → 2 ^ 32 ≤ content_size 1 (length body)
    → SectionCause (entered (record { closed = closed; current = open_view ek count items }) (kind_id k) body).current TooLarge
one_of_it None k count items closed body d large = large
one_of_it (Some o) k count items closed body d large = rw (ne_eqb (kind_id o) (kind_id k) d) large

too_large_at : (h : HolderState) (text : List ℕ) (closed_len : ℕ) (kind : Option Kind) (earlier : Option Earlier) (opening : Option Opening)
    → h.opening ≡ opening → EarlierIsIn h closed_len kind earlier → is_finished h ≡ false
    → 2 ^ 32 ≤ content_size h.count (length (h.body ++ text))
    → SectionCause (buffered_content (buffer_appended (buffer_view h closed_len kind earlier) text)).current TooLarge
too_large_at h text closed_len kind None None o l f large = let finished = rw o at f in cc
too_large_at h text closed_len None None (Some x) o l f large = let none = l.0.2 in cc
too_large_at h text closed_len (Some k) None (Some x) o l f large = let indices =
    rw o at l.1 in rw o (part_of_it h.count x.member_start k (take closed_len h.kept) h.body text indices.1 large)
too_large_at h text closed_len None (Some e) opening o l f large = absurd l.another
too_large_at h text closed_len (Some k) (Some e) opening o l f large =
    let one : h.count ≡ 1 = ap (λ (x : HolderState). x.count) l.first in
    one_of_it e.kind k e.count _ _ (h.body ++ text) l.another (rw one at large)

appended_at : (h : HolderState) (text : List ℕ) (closed_len : ℕ) (kind : Option Kind) (earlier : Option Earlier) (opening : Option Opening)
    → h.opening ≡ opening → EarlierIsIn h closed_len kind earlier → is_finished h ≡ false
    → buffer_view (member_appended h text) closed_len kind earlier ≡ buffer_appended (buffer_view h closed_len kind earlier) text
appended_at h text closed_len kind None None o l f = let finished = rw o at f in cc
appended_at h text closed_len None None (Some x) o l f = let none = l.0.2 in cc
appended_at h text closed_len (Some k) None (Some x) o l f =
    let indices = rw o at l.1 in
    rw (o, take-append-le x.member_start h.body text indices.0, drop-append-le x.member_start h.body text indices.0) refl
appended_at h text closed_len kind (Some e) opening o l f = refl

still_at : (h : HolderState) (text : List ℕ) (closed_len : ℕ) (kind : Option Kind) (earlier : Option Earlier) (opening : Option Opening)
    → h.opening ≡ opening → EarlierIsIn h closed_len kind earlier → is_finished h ≡ false
    → EarlierIsIn (member_appended h text) closed_len kind earlier
still_at h text closed_len kind None None o l f = let finished = rw o at f in cc
still_at h text closed_len None None (Some x) o l f = let none = l.0.2 in cc
still_at h text closed_len (Some k) None (Some x) o l f =
    let indices = rw o at l.1 in
    (l.0, rw o (omega (arith, indices.0, length-append h.body text), indices.1))
still_at h text closed_len kind (Some e) opening o l f = record {
  first = ap (λ (x : HolderState). member_appended x text) l.first;
  gap = l.gap;
  section = l.section;
  another = l.another;
  counted = l.counted;
  fits = l.fits;
}

module _ (old : HolderState) (closed_len : ℕ) (kind : Option Kind) (earlier : Option Earlier) (now : Buffered)
    (laid : IsLaidOut old closed_len kind earlier) (view : buffer_view old closed_len kind earlier ≡ now)
    (writing : is_none now.writing ≡ false) where
  unfinished : is_finished old ≡ false
  unfinished = some_is_written old closed_len kind earlier now laid view writing

  pub longer_view : (text : List ℕ) → buffer_view (member_appended old text) closed_len kind earlier ≡ buffer_appended now text
  longer_view text = rw (← view) (appended_at old text closed_len kind earlier old.opening refl laid.indices unfinished)

  pub still_laid : (text : List ℕ) → IsLaidOut (member_appended old text) closed_len kind earlier
  still_laid text = record { indices = still_at old text closed_len kind earlier old.opening refl laid.indices unfinished }

  -- there is room in the holder where there is room in the section
  room_there : (text : List ℕ) (fault : Fault) → no_room_in_holder old text fault → NoRoom (section_appended now text) fault
  room_there text fault p = (p.0, rw (← view) (too_large_at old text closed_len kind earlier old.opening refl laid.indices unfinished p.1))

  room_back : (text : List ℕ) (fault : Fault) → NoRoom (section_appended now text) fault → no_room_in_holder old text fault
  room_back text fault p = (p.0, large_at old text closed_len kind earlier old.opening refl laid.indices unfinished (rw (← view) at p.1))

  there : (cause : Fault → Type 0) (text : List ℕ) (fault : Fault) → either cause (no_room_in_holder old text) fault
      → either cause (NoRoom (section_appended now text)) fault
  there cause text fault c = elim c [ inl own ↦ inl own | inr p ↦ inr (room_there text fault p) ]

  back : (cause : Fault → Type 0) (text : List ℕ) (fault : Fault) → either cause (NoRoom (section_appended now text)) fault
      → either cause (no_room_in_holder old text) fault
  back cause text fault c = elim c [ inl own ↦ inl own | inr p ↦ inr (room_back text fault p) ]

  pub appended_value : (new : HolderState) (outcome : Result (Unit {0}) Fault) (p : Piece)
      → Extends old new (member_appended old p.text) outcome p (no_room_in_holder old p.text)
      → Extends now (buffer_view new closed_len kind earlier) (buffer_appended now p.text) outcome p (NoRoom (section_appended now p.text))
  appended_value new (Ok u) p a = record {
    ok = rw a.ok (longer_view p.text);
    fits = a.fits;
    free =
        λ fault c. a.free fault (back p.Cause p.text fault c);
    err = tt;
    warranted = tt;
  }
  appended_value new (Err f) p a =
      record { ok = tt; fits = tt; free = tt; err = rw a.err view; warranted = still_warranted _ _ (there p.Cause p.text) f a.warranted }

  pub appended_list : {S B : Type 0} (steps : S → Option B → S → Type 0) (values : S) (new : HolderState)
      (outcome : Result (Unit {0}) Fault) (piece : List B → Piece)
      → ExtendsListed steps values old new outcome (member_appended old) (no_room_in_holder old) piece
      → ExtendsListed steps values now (buffer_view new closed_len kind earlier) outcome (buffer_appended now)
      (λ bytes. NoRoom (section_appended now bytes)) piece
  appended_list steps values new (Ok u) piece a =
      let e = a.ok.3 in
      let p : Piece = piece a.ok.0.items in
      record {
        ok = (
          a.ok.0,
          a.ok.1,
          a.ok.2,
          record {
            state = rw e.state (longer_view p.text);
            fits = e.fits;
            free =
                λ fault c. e.free fault (back p.Cause p.text fault c);
          },
        );
        err = tt;
        warranted = tt;
      }
  appended_list steps values new (Err f) piece a =
      let p : Piece = piece a.warranted.0.items in
      record { ok = tt; err = rw a.err view; warranted = (a.warranted.0, a.warranted.1, still_warranted _ _ (there p.Cause p.text) f a.warranted.2) }

  -- the layout is kept
  pub list_laid : {S B : Type 0} (steps : S → Option B → S → Type 0) (values : S) (new : HolderState) (outcome : Result (Unit {0}) Fault)
      (piece : List B → Piece)
      → ExtendsListed steps values old new outcome (member_appended old) (no_room_in_holder old) piece → IsLaidOut new closed_len kind earlier
  list_laid steps values new (Ok u) piece a = rw a.ok.3.state (still_laid (piece a.ok.0.items).text)
  list_laid steps values new (Err f) piece a = rw a.err laid

-- ---- an item is given up

back_fits_at : (ek : Option Kind) (bytes : List ℕ) (count closed_len items_end : ℕ) → number_size count < 2 ^ 32
    → SectionFits (open_view ek count (drop (closed_len + 11) (take items_end bytes))) → SectionIsIn ek closed_len items_end
    → items_end ≤ length bytes
    → content_size count (items_end - kept_before ek closed_len) < 2 ^ 32
back_fits_at None bytes count closed_len items_end n f s l = omega (arith, n, s)
back_fits_at (Some k) bytes count closed_len items_end n f s l =
    omega (arith, f, length-drop (closed_len + 11) (take items_end bytes), length-take-le items_end bytes l)

pub back_fits : (h : HolderState) (closed_len : ℕ) (kind : Option Kind) (earlier : Option Earlier) (e : Earlier)
    → IsLaidOut h closed_len kind earlier → earlier ≡ Some e → content_size e.count (e.items_end - kept_before e.kind e.closed_len) < 2 ^ 32
back_fits h closed_len kind earlier e l is =
    let a : IsApart h kind e = (rw is at l).indices in
    back_fits_at e.kind h.kept e.count e.closed_len e.items_end a.counted a.fits a.section (omega (arith, a.gap))

-- ---- something that stands alone

within_kept : (h : HolderState) (closed_len : ℕ) (kind : Option Kind) → MembersAreIn kind closed_len h → closed_len ≤ length h.kept
within_kept h closed_len None m = omega (arith, m.0)
within_kept h closed_len (Some k) m = omega (arith, m)

-- the open section is closed, and a text follows it
headed_is : (h : HolderState) (text : List ℕ) (closed_len : ℕ) (kind : Option Kind) → MembersAreIn kind closed_len h
    → filled (all_bytes h ++ text) closed_len (length h.kept) (open_head kind h.count (length h.body))
    ≡ sections_text (record { closed = take closed_len h.kept; current = open_view kind h.count h.body }) ++ text
headed_is h text closed_len None m =
    rw (
      append_assoc h.kept h.body text,
      take-append-le closed_len h.kept (h.body ++ text) (within_kept h closed_len None m),
      drop_at h.kept (h.body ++ text) (length h.kept) refl,
      m.1,
    )
    (sym (append_assoc (take closed_len h.kept) [] text))
headed_is h text closed_len (Some k) m =
    let o : OpenSection = record { id = kind_id k; count = h.count; body = h.body } in
    rw (
      append_assoc h.kept h.body text,
      take-append-le closed_len h.kept (h.body ++ text) (within_kept h closed_len (Some k) m),
      drop_at h.kept (h.body ++ text) (length h.kept) refl,
    )
    (ap (λ (t : List ℕ). take closed_len h.kept ++ t) (headed (kind_id k) h.count h.body text)
    ∙ sym (append_assoc (take closed_len h.kept) (open_text_of o) text))

-- and then all bytes are closed, those among them too whose gap a head fills
pub stood : (h kept new : HolderState) (text first more head : List ℕ) (gap end closed_len new_len : ℕ) (kind : Option Kind)
    (earlier : Option Earlier) (now : Buffered) → IsLaidOut h closed_len kind earlier → buffer_view h closed_len kind earlier ≡ now
    → now.writing ≡ None
    → kept ≡ holding (filled (all_bytes (holding (all_bytes h ++ text) 0 [])) closed_len (length h.kept)
    (open_head kind h.count (length h.body)) ++ (first ++ more)) 0 []
    → gap ≤ length first → end ≡ length kept.kept - length more → new ≡ with_kept kept (filled kept.kept (end - gap) end head) → new_len ≡ length new.kept
    → buffer_view new new_len None earlier ≡ buffer_with now (text ++ (take (length first - gap) first ++ (head ++ more)))
stood h kept new text first more head gap end closed_len new_len kind earlier now l view none k room e is n =
    let idle = none_is_written h closed_len kind earlier (ap (λ (b : Buffered). b.writing) view ∙ none) in
    let members : MembersAreIn kind closed_len h × BegunIsIn h.opening h.count (length h.body) = (rw idle.0 at l).indices in
    let before = sections_text (record { closed = take closed_len h.kept; current = open_view kind h.count h.body }) in
    let bytes = take (length first - gap) first ++ (head ++ more) in
    let whole : kept ≡ holding ((before ++ text) ++ (first ++ more)) 0 [] =
    k ∙ rw (append-nil (all_bytes h ++ text), headed_is h text closed_len kind members.0) refl in
    let size : end ≡ length ((before ++ text) ++ (first ++ more)) - length more = rw whole at e in
    let all : new ≡ holding (before ++ (text ++ bytes)) 0 [] =
    is ∙ rw (whole, gap_filled (before ++ text) first more head gap end room size) (ap (λ (b : List ℕ). holding b 0 []) (append_assoc before text bytes)) in
    let closed = before ++ (text ++ bytes) in
    rw (n, all, idle.0) (rw (← view, idle.0, idle.1, take_all (length closed) closed (omega arith)) refl)

pub no_kind : (kind : Option Kind) → false ≡ is_some kind → kind ≡ None
no_kind None e = refl
no_kind (Some k) e = cc

-- bytes whose gap is empty, with nothing behind them
pub without_gap : (first head more : List ℕ) (gap : ℕ) → gap ≡ 0 → length head ≤ gap → length more ≡ 0
    → take (length first - gap) first ++ (head ++ more) ≡ first
without_gap first head more gap g h m =
    let no_head : head ≡ [] = nil_of_length head (omega (arith, g, h)) in
    let no_more : more ≡ [] = nil_of_length more m in
    let size : length first - gap ≡ length first = omega (arith, g) in
    rw (no_head, no_more, size, take_all (length first) first (omega arith), append-nil first) refl
  where
    nil_of_length : (xs : List ℕ) → length xs ≡ 0 → xs ≡ []
    nil_of_length [] e = refl
    nil_of_length (x ∷ xs) e = cc

-- where no section is open, what is written after all bytes is closed
pub stood_alone : (h new : HolderState) (text : List ℕ) (closed_len new_len : ℕ) (earlier : Option Earlier) (now : Buffered)
    → IsLaidOut h closed_len None earlier → buffer_view h closed_len None earlier ≡ now → now.writing ≡ None
    → new ≡ holding (all_bytes h ++ text) 0 [] → new_len ≡ length new.kept → buffer_view new new_len None earlier ≡ buffer_with now text
stood_alone h new text closed_len new_len earlier now l view none is n =
    let idle = none_is_written h closed_len None earlier (ap (λ (b : Buffered). b.writing) view ∙ none) in
    let members : MembersAreIn None closed_len h × BegunIsIn h.opening h.count (length h.body) = (rw idle.0 at l).indices in
    let closed : take closed_len h.kept ++ [] ≡ all_bytes h =
    rw (members.0.1, ← members.0.0, take_all (length h.kept) h.kept (omega arith)) refl in
    let all = all_bytes h ++ text in
    rw (n, is, idle.0) (rw (← view, idle.0, idle.1, closed, take_all (length all) all (omega arith)) refl)

-- ---- all bytes
