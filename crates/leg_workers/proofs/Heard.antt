-- What is printed of three legs that are heard round by round.
use Rattle.std.proofs.Common.{◌≡◌, ◌<◌, ◌≤◌, ℕ, zero, suc, ◌+◌, ◌-◌, Bool, true, false, ◌&&◌, nat_lt, List, [], ◌∷◌, ◌++◌, length, ◌⊎◌, inl, inr, ⊎_elim, Option, None, Some, slice_index_or, refl, sym, ap, subst, ◌∙◌, arith, true≢false}
use Rattle.std.specs.Prelude.{option_to_list}
use Rattle.std.proofs.lemmas.Bool.{ltb-false}
use Rattle.std.proofs.lemmas.List.{append-nil, get_or_append_left, get_or_push, length-append, length_push}
use Rattle.tri_base.specs.declared.leg.Leg.{Leg}
use Rattle.tri_base.specs.declared.leg.Leg.TheVariants.{A, B, C}
use Rattle.tri_base.specs.declared.leg.Triple.{Triple}
use Rattle.tri_base.specs.Legs.{leg_part}
use Rattle.fault_history.specs.Notes.{NoteData, no_note, note_data}
use Rattle.fault_history.specs.declared.note.Note.{Note}
use Rattle.tribus.specs.Ends.{End}
use Rattle.tribus.specs.declared.note_link.Told.{Told}
use Rattle.tribus.specs.declared.note_link.Told.TheVariants.{Scan, Over}
use Rattle.leg_workers.specs.declared.hearing.Listener.{Listener}
use Rattle.leg_workers.specs.declared.pages.Page.{Page}
use Rattle.leg_workers.specs.Printing.{IsPrinted}
use Rattle.leg_workers.specs.Inner.Telling.{IsTold, notes_in}
use Rattle.leg_workers.specs.Inner.Hearing.{AreOver, ArePrinted, HasPrinted, Hears, HearsRound, NothingHeard, PrintsBy, heard, listeners_at, may_print, notes_at, outs_of, row_from}
use Rattle.leg_workers.proofs.Ended.{each_leg}
use Rattle.leg_workers.proofs.Told.{notes_more, notes_over, told_more, told_over}

-- ---- the scans that were printed

-- they are the same where the notes of each are
pub printed_same : {P : Type 0} (After : P → (scan : ℕ) → Triple NoteData → P → Type 0)
    (notes notes' : ℕ → Triple NoteData) (n : ℕ) (old new : P)
    → ((k : ℕ) → k < n → notes' (suc k) ≡ notes (suc k)) → IsPrinted After notes n old new
    → IsPrinted After notes' n old new
unfolding IsPrinted
printed_same After notes notes' zero old new same h = h
printed_same After notes notes' (suc n) old new same h = (
  h.0,
  printed_same After notes notes' n old h.0 (λ k lt. same k (omega (arith, lt))) h.1,
  subst (λ (row : Triple NoteData). After h.0 (suc n) row new) (sym (same n (omega arith))) h.2,
)

pub printed_none : {P : Type 0} (After : P → (scan : ℕ) → Triple NoteData → P → Type 0)
    (notes : ℕ → Triple NoteData) (p : P) → IsPrinted After notes 0 p p
unfolding IsPrinted
printed_none After notes p = refl

pub printed_more : {P : Type 0} (After : P → (scan : ℕ) → Triple NoteData → P → Type 0)
    (notes : ℕ → Triple NoteData) (n : ℕ) (old mid new : P) → IsPrinted After notes n old mid
    → After mid (n + 1) (notes (n + 1)) new → IsPrinted After notes (n + 1) old new
unfolding IsPrinted
printed_more After notes n old mid new h a =
    let e : n + 1 ≡ suc n = omega arith in
    subst (λ k. IsPrinted After notes k old new) (sym e)
    (mid, h, subst (λ k. After mid k (notes k) new) e a)

-- ---- lists that go on

at_front : (xs ys : List NoteData) (k : ℕ) → k < length xs
    → slice_index_or (xs ++ ys) (suc k - 1) no_note ≡ slice_index_or xs (suc k - 1) no_note
at_front xs ys k lt = get_or_append_left xs ys no_note (suc k - 1) (omega (arith, lt))

at_last : (xs : List NoteData) (y : NoteData) (n : ℕ) → length xs ≡ n
    → slice_index_or (xs ++ y ∷ []) (n + 1 - 1) no_note ≡ y
at_last xs y n e = get_or_push xs y no_note (n + 1 - 1) (omega (arith, e))

-- ---- two tests

and_true : (a b : Bool) → (a && b) ≡ true → (a ≡ true) × (b ≡ true)
and_true true true e = (refl, refl)
and_true true false e = absurd (true≢false (sym e))
and_true false b e = absurd (true≢false (sym e))

and_false : (a b : Bool) → (a && b) ≡ false → a ≡ true → b ≡ false
and_false true b e h = e
and_false false b e h = absurd (true≢false (sym h))

-- ---- one round

module _ {P : Type 0} (After : P → (scan : ℕ) → Triple NoteData → P → Type 0) (was : Triple (End Told)) where
  module _ (ears ears' : Triple Listener) (round : Triple (Option NoteData)) (hears : (x : Leg) → Hears (leg_part ears x) (leg_part round x) (leg_part ears' x))
      (page : Page) (old now : P) (s : HasPrinted After was ears page old now) where
    link : (x : Leg) → (leg_part ears' x).out.link ≡ (leg_part was x).link
    link x = (hears x).link ∙ s.link x

    told : (x : Leg) → IsTold (leg_part ears' x).out.list (leg_part ears' x).is_over
    told x = (hears x).told (s.told x)

    sizes : (x : Leg) → length (heard (leg_part ears' x))
        ≡ length (heard (leg_part ears x)) + length (option_to_list (leg_part round x))
    sizes x = ap length (hears x).notes ∙ length-append (heard (leg_part ears x)) (option_to_list (leg_part round x))

    enough : (x : Leg) → page.scan ≤ length (heard (leg_part ears' x))
    enough x = omega (arith, s.enough x, sizes x)

    same_note : (x : Leg) (k : ℕ) → k < page.scan
        → slice_index_or (heard (leg_part ears' x)) (suc k - 1) no_note
        ≡ slice_index_or (heard (leg_part ears x)) (suc k - 1) no_note
    same_note x k lt =
        ap (λ (ns : List NoteData). slice_index_or ns (suc k - 1) no_note) (hears x).notes
        ∙ at_front (heard (leg_part ears x)) (option_to_list (leg_part round x)) k (omega (arith, lt, s.enough x))

    same_notes : (k : ℕ) → k < page.scan → notes_at (outs_of ears') (suc k) ≡ notes_at (outs_of ears) (suc k)
    same_notes k lt = λ i. record { a = same_note A k lt i; b = same_note B k lt i; c = same_note C k lt i }

    printed : IsPrinted After (notes_at (outs_of ears')) page.scan old now
    printed =
        printed_same After (notes_at (outs_of ears)) (notes_at (outs_of ears')) page.scan old now same_notes s.printed

    -- the page is closed
    closes : (page.is_open ≡ true
        → (page.scans ≤ page.scan) ⊎ ((x : Leg) × (leg_part round x ≡ None)))
        → HasPrinted After was ears' (record page { is_open = false }) old now
    closes why = record {
      link = link;
      told = told;
      printed = printed;
      enough = enough;
      open_so = λ e. absurd (true≢false (sym e));
      closed = λ _. by page.is_open refl;
    }
      where
        End_at : Type 0
        End_at =
            (page.scans ≤ page.scan)
            ⊎ ((x : Leg) × ((leg_part ears' x).is_over ≡ true) × (length (heard (leg_part ears' x)) ≡ page.scan))

        by : (o : Bool) → page.is_open ≡ o → End_at
        by true e = ⊎_elim (λ (full : page.scans ≤ page.scan). inl full)
            (λ (w : (x : Leg) × (leg_part round x ≡ None)).
            inr (
              w.0,
              (hears w.0).none w.1,
              sizes w.0 ∙ (ap (λ (o : Option NoteData). length (heard (leg_part ears w.0)) + length (option_to_list o)) w.1
                  ∙ omega (arith, s.open_so e w.0)),
            )) (why e)
        by false e = ⊎_elim (λ (full : page.scans ≤ page.scan). inl full)
            (λ (w : (x : Leg) × ((leg_part ears x).is_over ≡ true) × (length (heard (leg_part ears x)) ≡ page.scan)).
            let gone = (hears w.0).over w.1 in
            inr (
              w.0,
              (hears w.0).none gone,
              sizes w.0 ∙ (ap (λ (o : Option NoteData). length (heard (leg_part ears w.0)) + length (option_to_list o)) gone
                  ∙ omega (arith, w.2)),
            )) (s.closed e)

    -- the round is printed
    module _ (row : Triple NoteData) (round_is : (x : Leg) → leg_part round x ≡ Some (leg_part row x))
        (open_now : page.is_open ≡ true) (new : P) (after : After now (page.scan + 1) row new) where
      grown : (x : Leg) → heard (leg_part ears' x) ≡ heard (leg_part ears x) ++ leg_part row x ∷ []
      grown x =
          (hears x).notes
          ∙ ap (λ (o : Option NoteData). heard (leg_part ears x) ++ option_to_list o) (round_is x)

      size : (x : Leg) → length (heard (leg_part ears' x)) ≡ page.scan + 1
      size x = ap length (grown x) ∙ (length_push (heard (leg_part ears x)) (leg_part row x)
          ∙ ap (λ n. n + 1) (s.open_so open_now x))

      last : (x : Leg) → slice_index_or (heard (leg_part ears' x)) (page.scan + 1 - 1) no_note ≡ leg_part row x
      last x =
          ap (λ (ns : List NoteData). slice_index_or ns (page.scan + 1 - 1) no_note) (grown x)
          ∙ at_last (heard (leg_part ears x)) (leg_part row x) page.scan (s.open_so open_now x)

      row_is : row ≡ notes_at (outs_of ears') (page.scan + 1)
      row_is = λ i. record { a = sym (last A) i; b = sym (last B) i; c = sym (last C) i }

      prints : HasPrinted After was ears' (record page { scan = page.scan + 1 }) old new
      prints = record {
        link = link;
        told = told;
        printed =
            printed_more After (notes_at (outs_of ears')) page.scan old now new printed
            (subst (λ (r : Triple NoteData). After now (page.scan + 1) r new) row_is after);
        enough = λ x. omega (arith, size x);
        open_so = λ _ x. size x;
        closed = λ e. absurd (true≢false (sym open_now ∙ e));
      }

  -- by what the round gave
  none_left : (page : Page) → may_print page ≡ false → page.is_open ≡ true → page.scans ≤ page.scan
  none_left page e o = ltb-false page.scan page.scans (and_false page.is_open (nat_lt page.scan page.scans) e o)

  pub round_printed : (ears ears' : Triple Listener) (page page' : Page) (old now new : P) (a b c : Option NoteData)
      → HearsRound ears (record { a = a; b = b; c = c }) ears'
      → HasPrinted After was ears page old now → (may : Bool) → may_print page ≡ may
      → PrintsBy After page (row_from a b c) may page' now new → HasPrinted After was ears' page' old new
  round_printed ears ears' page page' old now new None b c hears s may e h =
      subst (λ (x : Page × P). HasPrinted After was ears' x.0 old x.1) (λ i. (sym h.0 i, sym h.1 i))
      (closes ears ears' (record { a = None; b = b; c = c }) (each_leg _ hears.a hears.b hears.c) page old now s (λ _. inr (A, refl)))
  round_printed ears ears' page page' old now new (Some a) None c hears s may e h =
      subst (λ (x : Page × P). HasPrinted After was ears' x.0 old x.1) (λ i. (sym h.0 i, sym h.1 i))
      (closes ears ears' (record { a = Some a; b = None; c = c }) (each_leg _ hears.a hears.b hears.c) page old now s (λ _. inr (B, refl)))
  round_printed ears ears' page page' old now new (Some a) (Some b) None hears s may e h =
      subst (λ (x : Page × P). HasPrinted After was ears' x.0 old x.1) (λ i. (sym h.0 i, sym h.1 i))
      (closes ears ears' (record { a = Some a; b = Some b; c = None }) (each_leg _ hears.a hears.b hears.c) page old now s (λ _. inr (C, refl)))
  round_printed ears ears' page page' old now new (Some a) (Some b) (Some c) hears s true e h =
      subst (λ (x : Page). HasPrinted After was ears' x old new) (sym h.0)
      (prints ears ears' (record { a = Some a; b = Some b; c = Some c }) (each_leg _ hears.a hears.b hears.c) page old now s
      (record { a = a; b = b; c = c }) (each_leg _ refl refl refl) (and_true page.is_open _ e).0 new h.1)
  round_printed ears ears' page page' old now new (Some a) (Some b) (Some c) hears s false e h =
      subst (λ (x : Page × P). HasPrinted After was ears' x.0 old x.1) (λ i. (sym h.0 i, sym h.1 i))
      (closes ears ears' (record { a = Some a; b = Some b; c = Some c }) (each_leg _ hears.a hears.b hears.c) page old now s
      (λ o. inl (none_left page e o)))

  -- at the start nothing is
  pub none_printed : (page : Page) (p : P) → NothingHeard was → page.scan ≡ 0 → page.is_open ≡ true
      → HasPrinted After was (listeners_at was) page p p
  none_printed page p nothing first open_now = record {
    link = each_leg _ refl refl refl;
    told = each_leg _ (is_told A (nothing A)) (is_told B (nothing B)) (is_told C (nothing C));
    printed =
        subst (λ n. IsPrinted After (notes_at (outs_of (listeners_at was))) n p p) (sym first) (printed_none After _ p);
    enough = λ x. omega (arith, first);
    open_so = λ _. each_leg _ (is_none A (nothing A)) (is_none B (nothing B)) (is_none C (nothing C));
    closed = λ e. absurd (true≢false (sym open_now ∙ e));
  }
    where
      is_told : (x : Leg) → (leg_part was x).list ≡ [] → IsTold (leg_part was x).list false
      is_told x e = subst (λ (l : List Told). IsTold l false) (sym e) refl

      is_none : (x : Leg) → (leg_part was x).list ≡ [] → length (notes_in (leg_part was x).list) ≡ page.scan
      is_none x e = ap (λ (l : List Told). length (notes_in l)) e ∙ sym first

  -- and once all is over
  pub all_printed : (ears : Triple Listener) (page : Page) (scans : ℕ) (old now : P)
      → HasPrinted After was ears page old now → page.scans ≡ scans → AreOver ears
      → ArePrinted After scans was (outs_of ears) old now
  all_printed ears page scans old now s limit over = record {
    number = page.scan;
    link = each_leg _ (s.link A) (s.link B) (s.link C);
    told = each_leg _ (is_told A) (is_told B) (is_told C);
    printed = s.printed;
    enough = each_leg _ (s.enough A) (s.enough B) (s.enough C);
    least = by page.is_open refl;
  }
    where
      is_told : (x : Leg) → IsTold (leg_part ears x).out.list true
      is_told x =
          subst (λ (o : Bool). IsTold (leg_part ears x).out.list o) (each_leg (λ y. (leg_part ears y).is_over ≡ true) over.a over.b over.c x)
          (s.told x)

      Least : Type 0
      Least = (scans ≤ page.scan)
          ⊎ ((x : Leg) × (length (notes_in (leg_part (outs_of ears) x).list) ≡ page.scan))

      at : (x : Leg) → length (heard (leg_part ears x)) ≡ page.scan → Least
      at A e = inr (A, e)
      at B e = inr (B, e)
      at C e = inr (C, e)

      by : (o : Bool) → page.is_open ≡ o → Least
      by true e = at A (s.open_so e A)
      by false e = ⊎_elim (λ (full : page.scans ≤ page.scan). inl (omega (arith, full, limit)))
          (λ (w : (x : Leg) × ((leg_part ears x).is_over ≡ true) × (length (heard (leg_part ears x)) ≡ page.scan)).
          at w.0 w.2) (s.closed e)

-- the number of scans of a page stays
pub page_keeps : {P : Type 0} (After : P → (scan : ℕ) → Triple NoteData → P → Type 0) (page page' : Page) (old new : P)
    (row : Option (Triple NoteData)) (may : Bool) → PrintsBy After page row may page' old new
    → page'.scans ≡ page.scans
page_keeps After page page' old new None may h = ap (λ (p : Page). p.scans) h.0
page_keeps After page page' old new (Some row) true h = ap (λ (p : Page). p.scans) h.0
page_keeps After page page' old new (Some row) false h = ap (λ (p : Page). p.scans) h.0

-- ---- what one leg tells

pub hears_note : (was : Listener) (note : Note) (out : End Told) → was.is_over ≡ false
    → out ≡ record was.out { list = was.out.list ++ Scan note ∷ [] }
    → Hears was (Some (note_data note)) (record { out = out; is_over = was.is_over })
hears_note was note out still e = record {
  link = ap (λ (o : End Told). o.link) e;
  notes = ap (λ (o : End Told). notes_in o.list) e ∙ notes_more was.out.list note;
  told = λ h.
      subst (λ (x : List Told × Bool). IsTold x.0 x.1) (λ i. (ap (λ (o : End Told). o.list) (sym e) i, sym still i))
      (told_more was.out.list note (subst (λ (o : Bool). IsTold was.out.list o) still h));
  none = λ n. absurd (cc n);
  over = λ o. absurd (true≢false (sym o ∙ still));
}

pub hears_over : (was : Listener) (out : End Told) → was.is_over ≡ false
    → out ≡ record was.out { list = was.out.list ++ Over ∷ [] } → Hears was None (record { out = out; is_over = true })
hears_over was out still e = record {
  link = ap (λ (o : End Told). o.link) e;
  notes =
      ap (λ (o : End Told). notes_in o.list) e ∙ (notes_over was.out.list ∙ sym (append-nil (notes_in was.out.list)));
  told = λ h.
      subst (λ (l : List Told). IsTold l true) (ap (λ (o : End Told). o.list) (sym e))
      (told_over was.out.list (subst (λ (o : Bool). IsTold was.out.list o) still h));
  none = λ _. refl;
  over = λ _. refl;
}
