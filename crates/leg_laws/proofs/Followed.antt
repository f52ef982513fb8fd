-- A put, and taking away a note, keep that a leg follows the play.
use Rattle.std.proofs.Common.{◌≡◌, ℕ, zero, suc, ◌+◌, ◌*◌, ◌<◌, ◌≤◌, ℤ, Bool, true, false, List, [], ◌∷◌, ◌++◌, length, drop, refl, sym, ap, subst, ◌∙◌, arith, ⊎_elim}
use Rattle.std.proofs.lemmas.List.{get_or_append_left, get_or_at, length-append, length-drop}
use Rattle.std.proofs.lemmas.Bool.{cases_lt}
use Rattle.tri_base.specs.declared.leg.Leg.{Leg}
use Rattle.tri_base.specs.declared.leg.Side.{Side}
use Rattle.tri_base.specs.declared.leg.Side.TheVariants.{Left, Right}
use Rattle.engine_face.specs.Meaning.{Meaning}
use Rattle.fault_history.specs.Notes.{NoteData}
use Rattle.script_text.specs.LegScans.{LegScan}
use Rattle.leg_laws.specs.declared.need.Need.TheVariants.{Put}
use Rattle.leg_laws.specs.Plays.{Play, scan_behind}
use Rattle.leg_laws.specs.Rounds.{Standing, put_in, round}
use Rattle.leg_laws.specs.Configs.{LegValue, place_of, need_of, starves, is_starved, scan_now, noted}
use Rattle.leg_laws.specs.Needs.{config_after_put, packet_at, put_packet, after_put, starved}
use Rattle.leg_laws.specs.ExchangeSteps.{Puts}
use Rattle.leg_laws.specs.Counts.{rounds_done}
use Rattle.leg_laws.specs.SentTaken.{TakesNote, SentTaken, sent_on, packet_of, by_taken, sent_more, config_of, CountsPackets, PutsIn, StandsAt, Follows}
use Rattle.leg_laws.proofs.Cut.{put_goes_on, put_is}
use Rattle.leg_laws.proofs.Moves.{At, GoesOn, at_put, place_put, starves_put, starved_goes, put_adds, put_rounds, counted_put, scan_there, true_is_false}

-- ---- what was put and taken before stays

by_taken_put : (m : Meaning) (play : Play) (leg : Leg) (l : SentTaken) (side : Side) (packet : List ℤ) (r : ℕ)
    → by_taken m play leg (sent_more side packet l) r ≡ by_taken m play leg l r
unfolding by_taken
by_taken_put m play leg l Left packet zero = refl
by_taken_put m play leg l Left packet (suc r) = λ i.
    round m play leg (by_taken_put m play leg l Left packet r i) (packet_of l.taken_left r) (packet_of l.taken_right r)
by_taken_put m play leg l Right packet zero = refl
by_taken_put m play leg l Right packet (suc r) = λ i.
    round m play leg (by_taken_put m play leg l Right packet r i) (packet_of l.taken_left r) (packet_of l.taken_right r)

-- of packets and one more behind them, each is what it should be, where that one is
one_more : (sent : List (List ℤ)) (packet : List ℤ) (should : ℕ → List ℤ) (bound r : ℕ)
    → ((k : ℕ) → k < bound → k < length sent → packet_of sent k ≡ should k)
    → (length sent < bound → packet ≡ should (length sent)) → r < bound → r < length (sent ++ packet ∷ [])
    → packet_of (sent ++ packet ∷ []) r ≡ should r
one_more sent packet should bound r f new b h = ⊎_elim
    (λ (k : r < length sent). get_or_append_left sent (packet ∷ []) [] r k ∙ f r b k)
    (λ (k : length sent ≤ r).
    let e : length sent ≡ r = omega (arith, k, h, length-append sent (packet ∷ [])) in
    get_or_at sent packet [] [] r e ∙ subst (λ n. packet ≡ should n) e (new (omega (arith, e, b))))
    (cases_lt r (length sent))

module _ (m : Meaning) (play : Play) (leg : Leg) (l : SentTaken) where
  -- what the leg has to put on a side in a round
  abbrev should : Side → ℕ → List ℤ
  should side r = put_in play leg side (by_taken m play leg l r)

  later : (side s : Side) (packet : List ℤ) (r : ℕ)
      → should s r ≡ put_in play leg s (by_taken m play leg (sent_more side packet l) r)
  later side s packet r = ap (λ x. put_in play leg s x) (sym (by_taken_put m play leg l side packet r))

  puts_more : (side : Side) (packet : List ℤ) (bound : ℕ) → PutsIn m play leg l bound
      → (length (sent_on side l) < bound → packet ≡ should side (length (sent_on side l)))
      → PutsIn m play leg (sent_more side packet l) bound
  puts_more Left packet bound f new Right r rb h = f Right r rb h ∙ later Left Right packet r
  puts_more Right packet bound f new Left r rb h = f Left r rb h ∙ later Right Left packet r
  puts_more Left packet bound f new Left r rb h =
      one_more l.sent_left packet (should Left) bound r (λ k b s. f Left k b s) new rb h ∙ later Left Left packet r
  puts_more Right packet bound f new Right r rb h =
      one_more l.sent_right packet (should Right) bound r (λ k b s. f Right k b s) new rb h ∙ later Right Right packet r

-- ---- the put

-- how many packets stand on the side of a put
sent_there : (v : LegValue) (l : SentTaken) (side : Side) → CountsPackets v l → At v (Put side)
    → length (sent_on side l) ≡ rounds_done v
sent_there v l Left c at =
    let a = put_adds (place_of v.config) Left at.need_is in omega (arith, c.sent_left, a.one_before refl)
sent_there v l Right c at =
    let a = put_adds (place_of v.config) Right at.need_is in omega (arith, c.sent_right, a.two_before refl)

taken_left_stays : (side : Side) (packet : List ℤ) (l : SentTaken) → (sent_more side packet l).taken_left ≡ l.taken_left
taken_left_stays Left packet l = refl
taken_left_stays Right packet l = refl

module _ (m : Meaning) (play : Play) (v : LegValue) (l : SentTaken) (side : Side) (f : Follows m play v l)
    (at : At v (Put side)) where
  -- where the leg stands, by what it took
  abbrev here : Standing
  here = by_taken m play v.leg l (rounds_done v)

  abbrev lines : LegScan
  lines = scan_behind play v.leg here.finished

  abbrev last : List ℤ
  last = packet_of l.taken_left (rounds_done v)

  abbrev more : List ℤ → SentTaken
  more packet = sent_more side packet l

  fits : is_starved v ≡ false → starves (config_of m lines last (place_of v.config) here.stand) ≡ false
  fits h = sym (ap starves (f.stands h).config) ∙ h

  -- what a fed leg puts
  right_packet : is_starved v ≡ false → put_packet v ≡ should m play v.leg l side (length (sent_on side l))
  right_packet h =
      let at_here = f.stands h in
      let scan = scan_there play v here f.tape at_here.finished in
      (λ i. packet_at (scan i) (at_here.config i))
      ∙ (put_is m lines last (place_of v.config) here.stand side at.need_is (fits h)
      ∙ ap (λ k. should m play v.leg l side k) (sym (sent_there v l side f.counted at)))

  same_notes : (packet : List ℤ) (r : ℕ)
      → drop v.given (by_taken m play v.leg l r).notes ≡ drop v.given (by_taken m play v.leg (more packet) r).notes
  same_notes packet r =
      ap (λ (t : Standing). drop v.given t.notes) (sym (by_taken_put m play v.leg l side packet r))

  goes : GoesOn v (after_put m v)
  goes = record {
    finished = sym ((put_adds (place_of v.config) side at.need_is).same_scan v.finished);
    place = place_put m (scan_now v) v.config side at.need_is;
    scans = refl;
  }

  fed_stands : (packet : List ℤ) (h : is_starved v ≡ false) → StandsAt m play (after_put m v) (more packet) here
  fed_stands packet h =
      let at_here = f.stands h in
      let scan = scan_there play v here f.tape at_here.finished in
      let r = put_rounds v (after_put m v) side at goes in
      record {
        given = at_here.given;
        notes = at_here.notes;
        marks = at_here.marks;
        finished = at_here.finished;
        config = (λ i. config_after_put m (scan i) (at_here.config i))
            ∙ (put_goes_on m lines last (place_of v.config) here.stand side at.need_is (fits h)
            ∙
            (λ i.
            config_of m lines (packet_of (sym (taken_left_stays side packet l) i) (sym r i))
            (sym goes.place i) here.stand));
      }

  fed_put : (packet : List ℤ) → is_starved v ≡ false → packet ≡ put_packet v
      → Follows m play (after_put m v) (more packet)
  fed_put packet h e =
      let w : LegValue = after_put m v in
      let right = e ∙ right_packet h in
      let there : by_taken m play v.leg (more packet) (rounds_done w) ≡ here =
      by_taken_put m play v.leg l side packet (rounds_done w)
      ∙ ap (λ k. by_taken m play v.leg l k) (put_rounds v w side at goes) in
      record {
        points = f.points;
        tape = f.tape;
        counted = counted_put v w l side packet f.counted at goes;
        puts = λ g bound. puts_more m play v.leg l side packet bound (f.puts h bound) (λ b. right);
        stands = λ g. subst (λ (t : Standing). StandsAt m play w (more packet) t) (sym there) (fed_stands packet h);
        behind = f.behind;
        early_puts = puts_more m play v.leg l side packet (2 * noted v) f.early_puts (λ b. right);
        early_notes = f.early_notes ∙ same_notes packet (2 * noted v);
      }

  empty_put : (packet : List ℤ) → Follows m play (starved v) (more packet)
  empty_put packet =
      let same = (put_adds (place_of v.config) side at.need_is).same_scan v.finished in
      let past : length (sent_on side l) < 2 * noted v → ⊥ =
      λ b. omega (arith, b, f.behind, sent_there v l side f.counted at) in
      record {
        points = f.points;
        tape = f.tape;
        counted = counted_put v (starved v) l side packet f.counted at (starved_goes v);
        puts = λ g. absurd (true_is_false g);
        stands = λ g. absurd (true_is_false g);
        behind = omega (arith, f.behind, same);
        early_puts = puts_more m play v.leg l side packet (2 * noted v) f.early_puts (λ b. absurd (past b));
        early_notes = f.early_notes ∙ same_notes packet (2 * noted v);
      }

pub followed_put : (m : Meaning) (play : Play) (v v' : LegValue) (l : SentTaken) (side : Side) (packet : List ℤ)
    → Follows m play v l → need_of v ≡ Put side → Puts m v v' packet → Follows m play v' (sent_more side packet l)
followed_put m play v v' l side packet f need puts = by (is_starved v') refl
  where
    at : At v (Put side)
    at = at_put v side need

    by : (t : Bool) → is_starved v' ≡ t → Follows m play v' (sent_more side packet l)
    by false h =
        let fed : is_starved v ≡ false =
        sym (starves_put m (scan_now v) v.config) ∙ (sym (ap is_starved (puts.fed h)) ∙ h) in
        subst (λ (w : LegValue). Follows m play w (sent_more side packet l)) (sym (puts.fed h))
        (fed_put m play v l side f at packet fed (puts.packet_is h))
    by true h =
        subst (λ (w : LegValue). Follows m play w (sent_more side packet l)) (sym (puts.out h))
        (empty_put m play v l side f at packet)

-- ---- a note is taken away

drop_one : (n : ℕ) (xs : List NoteData) → drop 1 (drop n xs) ≡ drop (suc n) xs
drop_one zero [] = refl
drop_one zero (x ∷ xs) = refl
drop_one (suc n) [] = refl
drop_one (suc n) (x ∷ xs) = drop_one n xs

pub followed_note : (m : Meaning) (play : Play) (v v' : LegValue) (l : SentTaken) (note : NoteData) → Follows m play v l
    → TakesNote v note v' → Follows m play v' l
followed_note m play v v' l note f t = subst (λ (u : LegValue). Follows m play u l) (sym t.given) (record {
  points = f.points;
  tape = f.tape;
  counted = record {
    sent_left = f.counted.sent_left;
    sent_right = f.counted.sent_right;
    taken_left = f.counted.taken_left;
    taken_right = f.counted.taken_right;
  };
  puts = f.puts;
  stands = λ h. let at = f.stands h in record {
    given = less (by_taken m play v.leg l (rounds_done v)).notes (sym t.notes ∙ at.notes);
    notes = rest (by_taken m play v.leg l (rounds_done v)).notes (sym t.notes ∙ at.notes);
    marks = at.marks;
    finished = at.finished;
    config = at.config;
  };
  behind = subst (λ n. n ≤ v.finished) same f.behind;
  early_puts = subst (λ n. PutsIn m play v.leg l (2 * n)) same f.early_puts;
  early_notes = subst (λ n. v'.notes ≡ drop (suc v.given) (by_taken m play v.leg l (2 * n)).notes) same
      (rest (by_taken m play v.leg l (2 * noted v)).notes (sym t.notes ∙ f.early_notes));
})
  where
    same : noted v ≡ suc v.given + length v'.notes
    same = omega (arith, ap length t.notes)

    less : (all : List NoteData) → note ∷ v'.notes ≡ drop v.given all → suc v.given ≤ length all
    less all e = omega (arith, ap length e, length-drop v.given all)

    rest : (all : List NoteData) → note ∷ v'.notes ≡ drop v.given all → v'.notes ≡ drop (suc v.given) all
    rest all e = ap (drop 1) e ∙ drop_one v.given all
