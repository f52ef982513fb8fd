-- Three legs that told their notes while they were worked from their start to their end: they have played, and the
-- printer was handed the notes of three in step.
use Rattle.std.proofs.Common.{◌≡◌, ◌<◌, ◌≤◌, ℕ, suc, ◌+◌, ◌-◌, Bool, true, false, List, [], ◌∷◌, ◌++◌, length, take, drop, ⊎_elim, slice_index_or, refl, sym, ap, subst, ◌∙◌, arith, true≢false}
use Rattle.std.proofs.lemmas.List.{append-nil, get_or-take}
use Rattle.tri_base.specs.declared.leg.Leg.{Leg}
use Rattle.tri_base.specs.declared.leg.Leg.TheVariants.{A, B, C}
use Rattle.tri_base.specs.declared.leg.Triple.{Triple}
use Rattle.tri_base.specs.declared.point.Point.{Point}
use Rattle.tri_base.specs.Legs.{leg_part}
use Rattle.engine_face.specs.Meaning.{Meaning}
use Rattle.fault_history.specs.Notes.{NoteData, no_note}
use Rattle.leg_laws.specs.declared.need.Need.TheVariants.{Done}
use Rattle.leg_laws.specs.Configs.{LegValue, need_of, noted}
use Rattle.leg_laws.specs.Counts.{IsWithin}
use Rattle.leg_laws.specs.ExchangeSteps.{leg_at_start}
use Rattle.leg_laws.specs.InStep.{IsInStep, NoneStarved, NotedByAll}
use Rattle.leg_laws.specs.Plays.{Play, HaveEqualScans, scans_of}
use Rattle.leg_laws.specs.Rounds.{after_scans}
use Rattle.leg_laws.specs.SentTaken.{Follows, SentTaken, nothing_sent}
use Rattle.leg_laws.proofs.Followed.{followed_note}
use Rattle.tribus.specs.Ends.{End, Trace}
use Rattle.tribus.specs.Posts.{AreAtTheirPlaces, PostPlace, PostValue, first_posts}
use Rattle.tribus.specs.Settling.{KeepsLists, SettledPost, LosesNothing}
use Rattle.tribus.specs.declared.note_link.Told.{Told}
use Rattle.leg_workers.specs.Playing.{AreAtStart, HavePlayedOver}
use Rattle.leg_workers.specs.Printing.{HavePrinted, IsLeastNoted, PrintsOver, note_in_step, notes_in_step}
use Rattle.leg_workers.specs.Working.{LegAtPost, IsKept}
use Rattle.leg_workers.specs.Inner.Telling.{AreBack, IsBack, IsFair, IsTold, TellerValue, legs_of, notes_in, posts_of, tellers_at, tolds_of, with_told}
use Rattle.leg_workers.specs.Inner.Hearing.{ArePrinted, NothingHeard, PrintsAll, notes_at}
use Rattle.leg_workers.specs.Inner.Lines.{AreFronts, AreNotesOf, AreOpen, IsFront}
use Rattle.leg_workers.specs.declared.printing.Lines.{Lines}
use Rattle.leg_workers.proofs.Ended.{HasEnded, each_leg, has_ended, played_over}
use Rattle.leg_workers.proofs.Heard.{printed_same}
use Rattle.leg_workers.proofs.Told.{told_front}

-- ---- one leg

-- a leg that has told nothing
pub record IsFresh (t : TellerValue) : Type 0 where
  pub nothing : t.told.list ≡ []
  pub open_still : t.over ≡ false

-- a leg that came back with all its notes told
pub record AllTold (now : TellerValue) (told : List Told) : Type 0 where
  pub told_is : now.told.list ≡ told
  pub done : need_of now.leg ≡ Done
  pub none_left : now.leg.notes ≡ []

pub all_told : (m : List Point → Meaning) (t now : TellerValue) (told : List Told) → IsFresh t → IsBack m t now
    → IsTold told true → (left : List Told) × (now.told.list ≡ told ++ left) → AllTold now told
all_told m t now told fresh back over front = record {
  told_is = front.1 ∙ (ap (λ (l : List Told). told ++ l) ends.0 ∙ append-nil told);
  done = back.done fresh.open_still ends.1;
  none_left = (fair.no_more ends.1).0;
}
  where
    fair : IsFair now
    fair = back.tells.fair (record {
      told = subst (λ (x : List Told × Bool). IsTold x.0 x.1) (λ i. (sym fresh.nothing i, sym fresh.open_still i)) refl;
      no_more = λ e. absurd (true≢false (sym e ∙ fresh.open_still));
    })

    ends : (front.0 ≡ []) × (now.over ≡ true)
    ends = told_front told front.0 now.over over (subst (λ (l : List Told). IsTold l now.over) front.1 fair.told)

-- with the notes that were taken from it a leg follows a play; so it does without them
notes_away : (m : Meaning) (play : Play) (l : SentTaken) (v : LegValue) (given : ℕ) (told : List NoteData)
    → v.given ≡ given + length told → Follows m play (record v { given = given; notes = told ++ v.notes }) l
    → Follows m play v l
notes_away m play l v given [] e f =
    let same : v.given ≡ given = omega (arith, e) in
    subst (λ n. Follows m play (record v { given = n }) l) (sym same) f
notes_away m play l v given (n ∷ told) e f =
    notes_away m play l v (suc given) told (omega (arith, e))
    (followed_note m play (record v { given = given; notes = n ∷ (told ++ v.notes) })
    (record v { given = suc given; notes = told ++ v.notes }) l n f (record { notes = refl; given = refl }))

module _ (m : List Point → Meaning) (play : Play) (x : Leg) (t now : TellerValue) (told : List Told)
    (start : t.leg ≡ leg_at_start (m play.points) play x) (first : t.post.lists ≡ nothing_sent) (fresh : IsFresh t)
    (back : IsBack m t now) (all : AllTold now told) where
  none_given : t.leg.given ≡ 0
  none_given = ap (λ (v : LegValue). v.given) start

  was_is : with_told t ≡ (t.leg, t.post)
  was_is =
      λ i. (record t.leg { given = sym none_given i; notes = notes_in (fresh.nothing i) ++ t.leg.notes }, t.post)

  -- with the notes that it told it has ended
  pub whole_ended : HasEnded (m play.points) play x (with_told now).0 now.post.lists
  whole_ended =
      has_ended m play x (t.leg, t.post) (with_told now) start first
      (subst (λ (p : LegAtPost). IsKept m p (with_told now)) was_is back.tells.kept, all.done)

  given : now.leg.given ≡ 0 + length (notes_in now.told.list)
  given =
      let none : length (notes_in t.told.list) ≡ 0 = ap (λ (l : List Told). length (notes_in l)) fresh.nothing in
      omega (arith, back.tells.given, none, none_given)

  -- and without them
  pub leg_ended : HasEnded (m play.points) play x now.leg now.post.lists
  leg_ended = record {
    letter = whole_ended.letter;
    follows =
        notes_away (m play.points) play now.post.lists now.leg 0 (notes_in now.told.list) given whole_ended.follows;
    done = whole_ended.done;
    within = whole_ended.within;
  }

  pub whole_notes : (with_told now).0.notes ≡ notes_in told
  whole_notes =
      (λ i. notes_in (all.told_is i) ++ all.none_left i) ∙ append-nil (notes_in told)

  pub number_noted : noted now.leg ≡ length (notes_in told)
  number_noted =
      let size : length (notes_in now.told.list) ≡ length (notes_in told) =
      ap (λ (l : List Told). length (notes_in l)) all.told_is in
      let none : length now.leg.notes ≡ 0 = ap length all.none_left in
      omega (arith, given, size, none)

  pub noted_within : length (notes_in told) ≤ length t.leg.tape.scans
  noted_within =
      let same : length now.leg.tape.scans ≡ length t.leg.tape.scans =
      ap (λ tape. length tape.scans) back.tells.kept.tape in
      let behind : noted now.leg ≤ now.leg.finished = leg_ended.follows.behind in
      let within : IsWithin now.leg = leg_ended.within in
      omega (arith, number_noted, same, behind, within)

-- ---- what a list in step has at a scan

note_is : (m : Meaning) (play : Play) (x : Leg) (v : LegValue) (notes : List NoteData) (k : ℕ) → v.given ≡ 0
    → v.notes ≡ notes → take (suc k - v.given) v.notes ≡ drop v.given (after_scans m play x (suc k)).notes
    → note_in_step m play (suc k) x ≡ slice_index_or notes (suc k - 1) no_note
note_is m play x v notes k none is early =
    let given : take (suc k - 0) notes ≡ (after_scans m play x (suc k)).notes =
    subst (λ (p : ℕ × List NoteData). take (suc k - p.0) p.1 ≡ drop p.0 (after_scans m play x (suc k)).notes)
    (λ i. (none i, is i)) early in
    let all : suc k - 0 ≡ suc k = omega arith in
    let here : take (suc k) notes ≡ (after_scans m play x (suc k)).notes =
    subst (λ n. take n notes ≡ (after_scans m play x (suc k)).notes) all given in
    ap (λ (ns : List NoteData). slice_index_or ns (suc k - 1) no_note) (sym here)
    ∙ get_or-take (suc k) notes (suc k - 1) no_note (omega arith)

-- ---- three legs

module _ {P : Type 0} (After : P → (scan : ℕ) → Triple NoteData → P → Type 0) (m : List Point → Meaning)
    (ts nows : Triple TellerValue) (scans : ℕ) (was told : Triple (End Told)) (bus : Triple SettledPost) (old new : P)
    (limit : scans ≡ length ts.a.leg.tape.scans) (fresh : (x : Leg) → IsFresh (leg_part ts x))
    (back : (x : Leg) → IsBack m (leg_part ts x) (leg_part nows x)) (printed : ArePrinted After scans was told old new)
    (fronts : (x : Leg) → (left : List Told) × ((leg_part nows x).told.list ≡ (leg_part told x).list ++ left)) where
  all : (x : Leg) → AllTold (leg_part nows x) (leg_part told x).list
  all x = all_told m (leg_part ts x) (leg_part nows x) (leg_part told x).list (fresh x) (back x) (printed.told x) (fronts x)

  pub none_left : (x : Leg) → (leg_part (legs_of nows) x).notes ≡ []
  none_left = each_leg _ (all A).none_left (all B).none_left (all C).none_left

  module _ (places : Triple PostPlace) (first : posts_of ts ≡ first_posts places)
      (lists : KeepsLists (posts_of nows) bus) (lost : LosesNothing bus) (play : Play) (same : HaveEqualScans play)
      (start : AreAtStart (m play.points) play (legs_of ts)) where
    starts : (x : Leg) → (leg_part ts x).leg ≡ leg_at_start (m play.points) play x
    starts = each_leg _ (ap (λ (t : Triple LegValue). t.a) start) (ap (λ (t : Triple LegValue). t.b) start)
        (ap (λ (t : Triple LegValue). t.c) start)

    firsts : (x : Leg) → (leg_part ts x).post.lists ≡ nothing_sent
    firsts = each_leg _ (ap (λ (t : Triple PostValue). t.a.lists) first)
        (ap (λ (t : Triple PostValue). t.b.lists) first) (ap (λ (t : Triple PostValue). t.c.lists) first)

    kept : (x : Leg) → (leg_part bus x).lists ≡ (leg_part nows x).post.lists
    kept = each_leg _ lists.0 lists.1 lists.2

    abbrev wholes : Triple LegValue
    wholes = record { a = (with_told nows.a).0; b = (with_told nows.b).0; c = (with_told nows.c).0 }

    ended : (x : Leg) → HasEnded (m play.points) play x (leg_part nows x).leg (leg_part bus x).lists
    ended x =
        subst (λ (l : SentTaken). HasEnded (m play.points) play x (leg_part nows x).leg l) (sym (kept x))
        (leg_ended m play x (leg_part ts x) (leg_part nows x) (leg_part told x).list (starts x) (firsts x) (fresh x)
        (back x) (all x))

    ended_whole : (x : Leg) → HasEnded (m play.points) play x (with_told (leg_part nows x)).0 (leg_part bus x).lists
    ended_whole x =
        subst (λ (l : SentTaken). HasEnded (m play.points) play x (with_told (leg_part nows x)).0 l) (sym (kept x))
        (whole_ended m play x (leg_part ts x) (leg_part nows x) (leg_part told x).list (starts x) (firsts x) (fresh x)
        (back x) (all x))

    pub legs_played : HavePlayedOver (m play.points) play (legs_of nows) bus
    legs_played =
        played_over (m play.points) play same bus lost (legs_of nows) (each_leg _ (ended A) (ended B) (ended C))

    in_step : IsInStep (m play.points) play (leg_part wholes)
    in_step =
        (played_over (m play.points) play same bus lost wholes
        (each_leg _ (ended_whole A) (ended_whole B) (ended_whole C))).in_step

    notes : (x : Leg) → (with_told (leg_part nows x)).0.notes ≡ notes_in (leg_part told x).list
    notes x =
        whole_notes m play x (leg_part ts x) (leg_part nows x) (leg_part told x).list (starts x) (firsts x) (fresh x)
        (back x) (all x)

    noted_is : (x : Leg) → noted (leg_part nows x).leg ≡ length (notes_in (leg_part told x).list)
    noted_is x =
        number_noted m play x (leg_part ts x) (leg_part nows x) (leg_part told x).list (starts x) (firsts x) (fresh x)
        (back x) (all x)

    noted_limit : length (notes_in told.a.list) ≤ scans
    noted_limit =
        let w = noted_within m play A ts.a nows.a told.a.list (starts A) (firsts A) (fresh A) (back A) (all A) in
        omega (arith, w, limit)

    -- so many scans each has noted, with the notes that it told
    noted_whole : (x : Leg) → printed.number ≤ noted (with_told (leg_part nows x)).0
    noted_whole x = let size = ap length (notes x) in omega (arith, size, printed.enough x)

    by_all : (k : ℕ) → k < printed.number → NotedByAll (leg_part wholes) (suc k)
    by_all k lt = each_leg _ (omega (arith, lt, noted_whole A)) (omega (arith, lt, noted_whole B))
        (omega (arith, lt, noted_whole C))

    note_there : (k : ℕ) → k < printed.number → notes_in_step (m play.points) play (suc k) ≡ notes_at told (suc k)
    note_there k lt =
        let early = in_step.early (suc k) (by_all k lt) in
        let a = note_is (m play.points) play A wholes.a (notes_in told.a.list) k refl (notes A) (early A) in
        let b = note_is (m play.points) play B wholes.b (notes_in told.b.list) k refl (notes B) (early B) in
        let c = note_is (m play.points) play C wholes.c (notes_in told.c.list) k refl (notes C) (early C) in
        λ i. record { a = a i; b = b i; c = c i }

    least : IsLeastNoted printed.number (leg_part (legs_of nows))
    least = record {
      by_all = each_leg _ (omega (arith, noted_is A, printed.enough A)) (omega (arith, noted_is B, printed.enough B))
          (omega (arith, noted_is C, printed.enough C));
      by_one = ⊎_elim
          (λ (full : scans ≤ printed.number). (A, omega (arith, full, noted_limit, noted_is A, printed.enough A)))
          (λ (w : (x : Leg) × (length (notes_in (leg_part told x).list) ≡ printed.number)). at w.0 w.1) printed.least;
    }
      where
        at : (x : Leg) → length (notes_in (leg_part told x).list) ≡ printed.number
            → (leg : Leg) × (noted (leg_part (legs_of nows) leg) ≡ printed.number)
        at A e = (A, noted_is A ∙ e)
        at B e = (B, noted_is B ∙ e)
        at C e = (C, noted_is C ∙ e)

    -- while none is starved, of all scans
    scans_same : (x y : Leg) → scans_of play x ≡ scans_of play y
    scans_same A A = refl
    scans_same A B = sym same.0
    scans_same A C = sym same.1
    scans_same B A = same.0
    scans_same B B = refl
    scans_same B C = same.0 ∙ sym same.1
    scans_same C A = same.1
    scans_same C B = same.1 ∙ sym same.0
    scans_same C C = refl

    number_is : NoneStarved (leg_part (legs_of nows)) → (x : Leg) → printed.number ≡ scans_of play x
    number_is fed x =
        let y = least.by_one.0 in
        sym least.by_one.1
        ∙ ((legs_played.in_step.fed fed y).number
        ∙ ((legs_played.in_step.ends fed y (legs_played.done y)).finished ∙ scans_same y x))

    within : (x : Leg) → printed.number ≤ scans_of play x
    within x =
        let tape : length ts.a.leg.tape.scans ≡ scans_of play A = ap (λ (v : LegValue). length v.tape.scans) (starts A) in
        omega (arith, printed.enough A, noted_limit, limit, tape, scans_same x A)

    pub scans_printed : HavePrinted After (m play.points) play (legs_of nows) old new
    scans_printed = record {
      number = printed.number;
      least = least;
      printed =
          printed_same After (notes_at told) (notes_in_step (m play.points) play) printed.number old new note_there
          printed.printed;
      within = within;
      all = number_is;
    }

  pub prints_over : (places : Triple PostPlace) → posts_of ts ≡ first_posts places → KeepsLists (posts_of nows) bus
      → LosesNothing bus → PrintsOver After m (legs_of ts) (legs_of nows) bus old new
  prints_over places first lists lost = record {
    played = λ play same start. legs_played places first lists lost play same start;
    printed = λ play same start. scans_printed places first lists lost play same start;
    notes = none_left;
  }

-- ---- a link that is settled

pub is_front : (t : TellerValue) (parts : LegValue × PostValue × End Told) (r : Trace Told) (out : End Told)
    → parts ≡ (t.leg, t.post, t.told) → (r.sent ≡ parts.2.list) × (r.taken ≡ out.list)
    → r.sent ≡ r.taken ++ r.left → IsFront out t.told
is_front t parts r out e lists whole = (
  r.left,
  ap (λ (p : LegValue × PostValue × End Told). p.2.list) (sym e)
      ∙ (sym lists.0 ∙ (whole ∙ ap (λ (l : List Told). l ++ r.left) lists.1)),
)

-- ---- over lines that are new

module _ {P : Type 0} (After : P → (scan : ℕ) → Triple NoteData → P → Type 0) (m : List Point → Meaning) (l : Lines)
    (is_new : AreOpen l) (legs : Triple LegValue) (begun nows : Triple TellerValue)
    (begun_is : begun ≡ tellers_at legs l.posts l.ins) (came : AreBack m begun nows) (outs : Triple (End Told))
    (old new : P) (scans : ℕ) (limit : scans ≡ length legs.a.tape.scans)
    (printed : PrintsAll After scans l.outs outs old new) where
  back : AreBack m (tellers_at legs l.posts l.ins) nows
  back = subst (λ (ts : Triple TellerValue). AreBack m ts nows) begun_is came

  nothing : NothingHeard l.outs
  nothing = each_leg _ (ap (λ (e : End Told). e.list) is_new.a.out) (ap (λ (e : End Told). e.list) is_new.b.out)
      (ap (λ (e : End Told). e.list) is_new.c.out)

  all_printed : ArePrinted After scans l.outs outs old new
  all_printed = printed.printed nothing

  pub ends_of : AreNotesOf l.links (tolds_of nows) outs
  ends_of = record {
    a = record {
      into = back.a.tells.link ∙ ap (λ (e : End Told). e.link) is_new.a.into;
      out = all_printed.link A ∙ ap (λ (e : End Told). e.link) is_new.a.out;
    };
    b = record {
      into = back.b.tells.link ∙ ap (λ (e : End Told). e.link) is_new.b.into;
      out = all_printed.link B ∙ ap (λ (e : End Told). e.link) is_new.b.out;
    };
    c = record {
      into = back.c.tells.link ∙ ap (λ (e : End Told). e.link) is_new.c.into;
      out = all_printed.link C ∙ ap (λ (e : End Told). e.link) is_new.c.out;
    };
  }

  pub places_of : AreAtTheirPlaces l.bus (posts_of nows)
  places_of = (
    back.a.tells.kept.place ∙ ap (λ (p : Triple PostValue). p.a.place) is_new.posts,
    back.b.tells.kept.place ∙ ap (λ (p : Triple PostValue). p.b.place) is_new.posts,
    back.c.tells.kept.place ∙ ap (λ (p : Triple PostValue). p.c.place) is_new.posts,
  )

  fresh : (x : Leg) → IsFresh (leg_part (tellers_at legs l.posts l.ins) x)
  fresh = each_leg _
      (record { nothing = ap (λ (e : End Told). e.list) is_new.a.into; open_still = refl })
      (record { nothing = ap (λ (e : End Told). e.list) is_new.b.into; open_still = refl })
      (record { nothing = ap (λ (e : End Told). e.list) is_new.c.into; open_still = refl })

  pub over_lines : (ended : Triple LegValue) (bus : Triple SettledPost) → ended ≡ legs_of nows
      → KeepsLists (posts_of nows) bus → LosesNothing bus → AreFronts outs (tolds_of nows)
      → PrintsOver After m legs ended bus old new
  over_lines ended bus same lists lost fronts =
      subst (λ (t : Triple LegValue). PrintsOver After m legs t bus old new) (sym same)
      (prints_over After m (tellers_at legs l.posts l.ins) nows scans l.outs outs bus old new limit fresh
      (each_leg _ back.a back.b back.c) all_printed (each_leg _ fronts.a fronts.b fronts.c) l.bus is_new.posts lists
      lost)
