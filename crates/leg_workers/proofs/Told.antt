-- A leg that tells its notes goes on telling: over a need that is served, a note that is told, and the word that there
-- are no more.
use Rattle.std.proofs.Common.{◌≡◌, ℕ, ◌+◌, ℤ, Bool, true, false, List, [], ◌∷◌, ◌++◌, length, ◌⊎◌, inl, ⊎_elim, Some, refl, sym, ap, subst, ◌∙◌, arith, true≢false}
use Rattle.std.proofs.lemmas.List.{append_assoc, length_push}
use Rattle.tri_base.specs.declared.leg.Leg.{Leg}
use Rattle.tri_base.specs.declared.leg.Triple.{Triple}
use Rattle.tri_base.specs.declared.point.Point.{Point}
use Rattle.engine_face.specs.Meaning.{Meaning}
use Rattle.fault_history.specs.Notes.{NoteData, note_data}
use Rattle.fault_history.specs.declared.note.Note.{Note}
use Rattle.script_text.specs.LegScans.{LegScan}
use Rattle.leg_laws.specs.declared.need.Need.{Need}
use Rattle.leg_laws.specs.declared.need.Need.TheVariants.{Put, Take, Done}
use Rattle.leg_laws.specs.Configs.{Config, LegValue, PutLeftReadings, PutRightReadings, TakeLeftReadings, TakeRightReadings, PutLeftResult, PutRightResult, TakeLeftResult, TakeRightResult, Starved, is_starved, need_of, scan_now}
use Rattle.leg_laws.specs.ExchangeSteps.{Puts, Takes}
use Rattle.leg_laws.specs.Needs.{after_take, notes_after_take, starved}
use Rattle.leg_laws.proofs.Starving.{goes_on_starved}
use Rattle.leg_core.specs.Calls.{TakesNote}
use Rattle.tribus.specs.Ends.{End}
use Rattle.tribus.specs.declared.note_link.Told.{Told}
use Rattle.tribus.specs.declared.note_link.Told.TheVariants.{Scan, Over}
use Rattle.leg_workers.specs.Working.{LegAtPost, IsKept}
use Rattle.leg_workers.specs.Inner.Serving.{ServesNeed}
use Rattle.leg_workers.specs.Inner.Telling.{TellerValue, TellsOn, IsAtEnd, IsBack, IsTold, MakesNoMore, notes_in, with_told}
use Rattle.leg_workers.proofs.Kept.{kept_self, kept_same, kept_twice}
use Rattle.leg_workers.proofs.OneNeed.{served_kept}

-- ---- what was told

pub notes_more : (xs : List Told) (n : Note) → notes_in (xs ++ Scan n ∷ []) ≡ notes_in xs ++ note_data n ∷ []
notes_more [] n = refl
notes_more (Scan m ∷ xs) n = ap (λ ns. note_data m ∷ ns) (notes_more xs n)
notes_more (Over ∷ xs) n = notes_more xs n

pub notes_over : (xs : List Told) → notes_in (xs ++ Over ∷ []) ≡ notes_in xs
notes_over [] = refl
notes_over (Scan m ∷ xs) = ap (λ ns. note_data m ∷ ns) (notes_over xs)
notes_over (Over ∷ xs) = notes_over xs

pub told_more : (xs : List Told) (n : Note) → IsTold xs false → IsTold (xs ++ Scan n ∷ []) false
told_more [] n h = refl
told_more (Scan m ∷ xs) n h = told_more xs n h
told_more (Over ∷ xs) n h = absurd (true≢false (sym h.1))

pub told_over : (xs : List Told) → IsTold xs false → IsTold (xs ++ Over ∷ []) true
told_over [] h = (refl, refl)
told_over (Scan m ∷ xs) h = told_over xs h
told_over (Over ∷ xs) h = absurd (true≢false (sym h.1))

-- what is over has nothing behind it
pub told_front : (xs ys : List Told) (over : Bool) → IsTold xs true → IsTold (xs ++ ys) over
    → (ys ≡ []) × (over ≡ true)
told_front [] ys over h k = absurd (true≢false h)
told_front (Scan m ∷ xs) ys over h k = told_front xs ys over h k
told_front (Over ∷ xs) ys over h k = (subst (λ (zs : List Told). zs ++ ys ≡ []) h.0 k.0, k.1)

-- ---- a leg with other notes

abbrev with_notes : (told : List NoteData) → LegValue → LegValue
with_notes told v = record v { given = 0; notes = told ++ v.notes }

puts_with : (m : Meaning) (told : List NoteData) (v v' : LegValue) (packet : List ℤ) → Puts m v v' packet
    → Puts m (with_notes told v) (with_notes told v') packet
puts_with m told v v' packet h = record {
  packet_is = h.packet_is;
  fed = λ e. ap (with_notes told) (h.fed e);
  nothing = h.nothing;
  out = λ e. ap (with_notes told) (h.out e);
}

notes_with : (m : Meaning) (told : List NoteData) (leg : Leg) (l : LegScan) (packet : List ℤ)
    (marks : List (Triple ℕ)) (notes : List NoteData) (c : Config)
    → told ++ notes_after_take m leg l packet marks notes c
    ≡ notes_after_take m leg l packet marks (told ++ notes) c
notes_with m told leg l packet marks notes (PutLeftReadings state) = refl
notes_with m told leg l packet marks notes (PutRightReadings ready) = refl
notes_with m told leg l packet marks notes (TakeLeftReadings ready) = refl
notes_with m told leg l packet marks notes (TakeRightReadings ready left) = refl
notes_with m told leg l packet marks notes (PutLeftResult half) = refl
notes_with m told leg l packet marks notes (PutRightResult half) = refl
notes_with m told leg l packet marks notes (TakeLeftResult half) = refl
notes_with m told leg l packet marks notes (TakeRightResult half left) = sym (append_assoc told notes _)
notes_with m told leg l packet marks notes (Starved place) = refl

takes_with : (m : Meaning) (told : List NoteData) (v v' : LegValue) (packet : List ℤ) → Takes m v v' packet
    → Takes m (with_notes told v) (with_notes told v') packet
takes_with m told v v' packet h = record {
  fed = λ e. ap (with_notes told) (h.fed e)
      ∙ ap (λ (ns : List NoteData). record (after_take m (with_notes told v) packet) { notes = ns })
      (notes_with m told v.leg (scan_now v) packet v.marks v.notes v.config);
  out = λ e. ap (with_notes told) (h.out e);
}

serves_with : (m : Meaning) (told : List NoteData) (n : Need) (p q : LegAtPost) → ServesNeed m n p q
    → ServesNeed m n (with_notes told p.0, p.1) (with_notes told q.0, q.1)
serves_with m told (Put side) p q s = (s.0, puts_with m told p.0 q.0 s.0 s.1, s.2)
serves_with m told (Take side) p q s = (s.0, takes_with m told p.0 q.0 s.0 s.1, s.2)
serves_with m told Done p q s = ap (λ (x : LegAtPost). (with_notes told x.0, x.1)) s

-- ---- a leg that makes no more notes

starved_no_more : (v v' : LegValue) → v.notes ≡ [] → is_starved v ≡ true → v' ≡ starved v → MakesNoMore v'
starved_no_more v v' none s e = subst MakesNoMore (sym e) (none, inl refl)

no_more : (m : Meaning) (p q : LegAtPost) → ServesNeed m (need_of p.0) p q → MakesNoMore p.0 → MakesNoMore q.0
no_more m p q s h = by (need_of p.0) refl s
  where
    by : (n : Need) → need_of p.0 ≡ n → ServesNeed m n p q → MakesNoMore q.0
    by (Put side) e s = ⊎_elim
        (λ (hungry : is_starved p.0 ≡ true).
        starved_no_more p.0 q.0 h.0 hungry ((goes_on_starved m p.0 q.0 s.0 hungry).0 s.1).1)
        (λ (done : need_of p.0 ≡ Done). absurd (cc (sym e ∙ done))) h.1
    by (Take side) e s = ⊎_elim
        (λ (hungry : is_starved p.0 ≡ true).
        starved_no_more p.0 q.0 h.0 hungry ((goes_on_starved m p.0 q.0 s.0 hungry).1 s.1))
        (λ (done : need_of p.0 ≡ Done). absurd (cc (sym e ∙ done))) h.1
    by Done e s = subst (λ (x : LegAtPost). MakesNoMore x.0) (sym s) h

-- ---- the three steps

module _ (m : List Point → Meaning) where
  pub tells_self : (t : TellerValue) → TellsOn m t t
  tells_self t = record { kept = kept_self m (with_told t); link = refl; given = refl; fair = λ h. h }

  pub tells_same : (t u : TellerValue) → u ≡ t → TellsOn m t u
  tells_same t u e = subst (TellsOn m t) (sym e) (tells_self t)

  pub tells_twice : (t u w : TellerValue) → TellsOn m t u → TellsOn m u w → TellsOn m t w
  tells_twice t u w a b = record {
    kept = kept_twice m (with_told t) (with_told u) (with_told w) a.kept b.kept;
    link = b.link ∙ a.link;
    given = omega (arith, a.given, b.given);
    fair = λ h. b.fair (a.fair h);
  }

  -- a need is served
  pub tells_served : (t u : TellerValue)
      → ServesNeed (m t.leg.points) (need_of t.leg) (t.leg, t.post) (u.leg, u.post) → u.told ≡ t.told
      → u.over ≡ t.over → TellsOn m t u
  tells_served t u s told over =
      let same : u ≡ record t { leg = u.leg; post = u.post } =
      λ i. record { leg = u.leg; post = u.post; told = told i; over = over i } in
      let k : IsKept m (t.leg, t.post) (u.leg, u.post) = served_kept m (t.leg, t.post) (u.leg, u.post) s in
      let w : LegAtPost = (u.leg, u.post) in
      subst (TellsOn m t) (sym same) (record {
        kept =
            served_kept m (with_told t) (with_notes (notes_in t.told.list) u.leg, u.post)
            (serves_with (m t.leg.points) (notes_in t.told.list) (need_of t.leg) (t.leg, t.post) w s);
        link = refl;
        given = ap (λ n. n + length (notes_in t.told.list)) k.given;
        fair = λ h. record {
          told = h.told;
          no_more = λ e. no_more (m t.leg.points) (t.leg, t.post) w s (h.no_more e);
        };
      })

  -- a note is told
  pub tells_note : (t u : TellerValue) (note : Note) → TakesNote t.leg (Some (note_data note)) u.leg
      → u.post ≡ t.post → u.told ≡ record t.told { list = t.told.list ++ Scan note ∷ [] } → t.over ≡ false
      → u.over ≡ t.over → TellsOn m t u
  tells_note t u note takes post told unsaid over =
      let list : u.told.list ≡ t.told.list ++ Scan note ∷ [] = ap (λ (e : End Told). e.list) told in
      let heard : notes_in u.told.list ≡ notes_in t.told.list ++ note_data note ∷ [] =
      ap notes_in list ∙ notes_more t.told.list note in
      let all : notes_in u.told.list ++ u.leg.notes ≡ notes_in t.told.list ++ t.leg.notes =
      ap (λ (ns : List NoteData). ns ++ u.leg.notes) heard
      ∙ (append_assoc (notes_in t.told.list) (note_data note ∷ []) u.leg.notes
      ∙ ap (λ (ns : List NoteData). notes_in t.told.list ++ ns) (sym takes.0)) in
      let given : u.leg.given ≡ t.leg.given + 1 = ap (λ (v : LegValue). v.given) takes.1 in
      record {
        kept = kept_same m (with_told t) (with_told u)
            (λ i. (record (takes.1 i) { given = 0; notes = all i }, post i));
        link = ap (λ (e : End Told). e.link) told;
        given =
            let size : length (notes_in u.told.list) ≡ length (notes_in t.told.list) + 1 =
            ap length heard ∙ length_push _ _ in
            omega (arith, given, size);
        fair = λ h. record {
          told =
              subst (λ (x : List Told × Bool). IsTold x.0 x.1) (λ i. (sym list i, sym (over ∙ unsaid) i))
              (told_more t.told.list note (subst (λ (o : Bool). IsTold t.told.list o) unsaid h.told));
          no_more = λ e. absurd (true≢false (sym e ∙ (over ∙ unsaid)));
        };
      }

  -- there are no more
  pub tells_over : (t u : TellerValue) → u.leg ≡ t.leg → u.post ≡ t.post
      → u.told ≡ record t.told { list = t.told.list ++ Over ∷ [] } → t.over ≡ false → u.over ≡ true
      → MakesNoMore t.leg → TellsOn m t u
  tells_over t u leg post told unsaid over none =
      let list : u.told.list ≡ t.told.list ++ Over ∷ [] = ap (λ (e : End Told). e.list) told in
      let heard : notes_in u.told.list ≡ notes_in t.told.list = ap notes_in list ∙ notes_over t.told.list in
      record {
        kept = kept_same m (with_told t) (with_told u)
            (λ i. (record (leg i) { given = 0; notes = heard i ++ (leg i).notes }, post i));
        link = ap (λ (e : End Told). e.link) told;
        given = λ i. (leg i).given + length (sym heard i);
        fair = λ h. record {
          told =
              subst (λ (x : List Told × Bool). IsTold x.0 x.1) (λ i. (sym list i, sym over i))
              (told_over t.told.list (subst (λ (o : Bool). IsTold t.told.list o) unsaid h.told));
          no_more = λ e. subst MakesNoMore (sym leg) none;
        };
      }

  -- ---- the same of a teller that is seen so

  pub served_view : (t w u : TellerValue) → w ≡ t
      → ServesNeed (m w.leg.points) (need_of w.leg) (w.leg, w.post) (u.leg, u.post) → u.told ≡ w.told
      → u.over ≡ w.over → TellsOn m t u
  served_view t w u e s told over = subst (λ (x : TellerValue). TellsOn m x u) e (tells_served w u s told over)

  pub note_view : (t w u : TellerValue) → w ≡ t → (note : Note) → TakesNote w.leg (Some (note_data note)) u.leg
      → u.post ≡ w.post → u.told ≡ record w.told { list = w.told.list ++ Scan note ∷ [] } → w.over ≡ false
      → u.over ≡ w.over → TellsOn m t u
  note_view t w u e note takes post told unsaid over =
      subst (λ (x : TellerValue). TellsOn m x u) e (tells_note w u note takes post told unsaid over)

  pub over_view : (t w u : TellerValue) → w ≡ t → u.leg ≡ w.leg → u.post ≡ w.post
      → u.told ≡ record w.told { list = w.told.list ++ Over ∷ [] } → t.over ≡ false → u.over ≡ true
      → t.leg.notes ≡ [] → (is_starved t.leg ≡ true) ⊎ (need_of t.leg ≡ Done) → TellsOn m t u
  over_view t w u e leg post told unsaid over none quiet =
      subst (λ (x : TellerValue). TellsOn m x u) e
      (tells_over w u leg post told (ap (λ (x : TellerValue). x.over) e ∙ unsaid) over
      (subst (λ (x : TellerValue). MakesNoMore x.leg) (sym e) (none, quiet)))

  -- ---- a leg that comes back

  pub back_same : (t u : TellerValue) → u ≡ t → IsBack m t u
  back_same t u e = record {
    tells = tells_same t u e;
    done = λ a b. absurd (true≢false (sym b ∙ (ap (λ (x : TellerValue). x.over) e ∙ a)));
  }

  pub back_done : (t u : TellerValue) → TellsOn m t u → need_of u.leg ≡ Done → IsBack m t u
  back_done t u h d = record { tells = h; done = λ a b. d }

  -- one that came back, and was then worked to its end
  pub back_worked : (t u w : TellerValue) → IsBack m t u → TellsOn m u w → need_of w.leg ≡ Done → IsBack m t w
  back_worked t u w a b d = back_done t w (tells_twice t u w a.tells b) d

  pub back_ended : (t u w : TellerValue) → IsBack m t u → TellsOn m u w × IsAtEnd w → IsBack m t w
  back_ended t u w a b = back_worked t u w a b.0 b.1
