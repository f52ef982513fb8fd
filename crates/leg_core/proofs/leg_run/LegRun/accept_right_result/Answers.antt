use Rattle.std.proofs.Common.{◌≡◌, ◌≤◌, ◌<◌, ◌+◌, ◌∙◌, ◌++◌, ◌∷◌, [], Bool, List, ℤ, Option, length, drop, sym, ap, subst, arith, rules}
use Rattle.tri_base.specs.declared.point.Point.{Point}
use Rattle.tri_base.specs.declared.leg.Side.TheVariants.{Right}
use Rattle.chassis.specs.Points.{inputs_of, outputs_of}
use Rattle.fault_history.specs.Notes.{NoteData}
use Rattle.script_text.specs.LegScans.{scan_at}
use Rattle.leg_laws.specs.declared.place.Place.{Place}
use Rattle.leg_laws.specs.declared.place.Place.TheVariants as p
use Rattle.leg_laws.specs.Configs.{LegValue, place_of}
use Rattle.leg_laws.specs.ExchangeSteps.{Takes}
use Rattle.leg_parts.specs.Closings.{Closes, drive_with}
use Rattle.leg_parts.specs.Logs.{RoomValue, drive_length, drive_room}
use Rattle.leg_parts.specs.Results.{voted_of}
use Rattle.leg_core.specs.Inner.Fit.{SlotsAt, config_kept, puts_done}
use Rattle.leg_core.proofs.Ahead.{rooms_ahead, rows_from, rows_over}
use Rattle.leg_core.proofs.Ends.{concluded, drive_fits, holds_next}
use Rattle.leg_core.proofs.Stands.{has_take, never_both, place_kept, true_is_not_false}
use Rattle.leg_core.proofs.leg_run.LegRun.accept_right_result.Goals as goal

pub invariant_of-self : goal.invariant_of-self
invariant_of-self g c =
    let s = c.self.inside in
    let i = c.self.invariant in
    let at : s.place ≡ p.TakeRightResult = sym (place_kept s.starved s.place _ _ _ _ _) ∙ ap (λ (v : LegValue). place_of v.config) c.self.view_is ∙ c.requires.place in
    let scan : s.finished < length s.tape.scans = subst (λ (v : LegValue). v.finished < length v.tape.scans) (sym c.self.view_is) (has_take c.args.self.now Right c.requires.need) in (
      i.0,
      record {
        within = omega (arith, scan);
        slots = (subst (λ (place : Place). SlotsAt place s.to_left s.to_right) at i.1.slots, search rules);
        long = rows_over s.tape s.finished s.long.items scan (i.1.long ∙ ap (λ (place : Place). drop (puts_done place) (rows_from s.tape s.finished)) at);
        rooms = λ fed. absurd (never_both s.starved c.if-self.true fed);
      },
    )

pub invariant_of-self-in_default : goal.invariant_of-self-in_default
invariant_of-self-in_default g c =
    let s = c.self.inside in
    let i = c.self.invariant in
    let at : s.place ≡ p.TakeRightResult = sym (place_kept s.starved s.place _ _ _ _ _) ∙ ap (λ (v : LegValue). place_of v.config) c.self.view_is ∙ c.requires.place in
    let scan : s.finished < length s.tape.scans = subst (λ (v : LegValue). v.finished < length v.tape.scans) (sym c.self.view_is) (has_take c.args.self.now Right c.requires.need) in (
      record {
        chassis = i.0.chassis;
        program = c.close-closed.ensures.points ∙ i.0.program;
        reads = i.0.reads;
        scans = i.0.scans;
        marks = i.0.marks;
        outputs = i.0.outputs;
        voted = i.0.voted;
        voted_room = i.0.voted_room;
        readings = i.0.readings;
      },
      record {
        within = omega (arith, scan);
        slots = (subst (λ (place : Place). SlotsAt place s.to_left s.to_right) at i.1.slots, search rules);
        long = rows_over s.tape s.finished s.long.items scan (i.1.long ∙ ap (λ (place : Place). drop (puts_done place) (rows_from s.tape s.finished)) at);
        rooms = λ fed. absurd (true_is_not_false fed);
      },
    )

pub add-requires : goal.add-requires
add-requires g c =
    let s = c.self.inside in
    let i = c.self.invariant in
    let scan : s.finished < length s.tape.scans = subst (λ (v : LegValue). v.finished < length v.tape.scans) (sym c.self.view_is) (has_take c.args.self.now Right c.requires.need) in
    let l = scan_at s.tape (s.finished + 1) in
    let inputs = length (inputs_of s.chassis) in
    let outputs = length (outputs_of s.chassis) in
    let drives = c.in-Ok.closing.drives in
    let driven = c.driven-drive.ensures ∙ ap (λ (line : Option (List ℤ)). drive_with line c.outputs.result.now drives) c.drive.ensures ∙ ap (λ (words : List ℤ). drive_with l.drive words drives) c.outputs.ensures.value in
    let fits = subst (λ (drive : Option (List ℤ)). drive_length drive ≤ drive_room outputs l.drive) (sym driven) (drive_fits l.drive s.result.outputs drives outputs i.0.outputs) in
    holds_next s.tape s.finished inputs outputs _ _ s.log.rooms scan (i.1.rooms c.if-self.false) i.0.voted fits

pub invariant_of-self-2 : goal.invariant_of-self-2
invariant_of-self-2 g c =
    let s = c.self.inside in
    let i = c.self.invariant in
    let at : s.place ≡ p.TakeRightResult = sym (place_kept s.starved s.place _ _ _ _ _) ∙ ap (λ (v : LegValue). place_of v.config) c.self.view_is ∙ c.requires.place in
    let scan : s.finished < length s.tape.scans = subst (λ (v : LegValue). v.finished < length v.tape.scans) (sym c.self.view_is) (has_take c.args.self.now Right c.requires.need) in
    let inputs = length (inputs_of s.chassis) in
    let outputs = length (outputs_of s.chassis) in (
      record {
        chassis = i.0.chassis;
        program = c.close-closed.ensures.points ∙ i.0.program;
        reads = i.0.reads;
        scans = i.0.scans;
        marks = i.0.marks;
        outputs = i.0.outputs;
        voted = i.0.voted;
        voted_room = i.0.voted_room;
        readings = i.0.readings;
      },
      record {
        within = omega (arith, scan);
        slots = (subst (λ (place : Place). SlotsAt place s.to_left s.to_right) at i.1.slots, search rules);
        long = rows_over s.tape s.finished s.long.items scan (i.1.long ∙ ap (λ (place : Place). drop (puts_done place) (rows_from s.tape s.finished)) at);
        rooms = λ fed. c.add.ensures.rooms ∙ ap (λ (rs : List RoomValue). drop 1 rs) (i.1.rooms fed ∙ rooms_ahead s.tape s.finished inputs outputs scan);
      },
    )

pub returns-clause-take : goal.returns-clause-take
returns-clause-take g c =
    let s = c.self.inside in
    let i = c.self.invariant.0 in
    let at : s.place ≡ p.TakeRightResult = sym (place_kept s.starved s.place _ _ _ _ _) ∙ ap (λ (v : LegValue). place_of v.config) c.self.view_is ∙ c.requires.place in
    let l = scan_at s.tape (s.finished + 1) in
    let closing = c.in-Ok.closing in
    let driven = c.driven-drive.ensures ∙ ap (λ (line : Option (List ℤ)). drive_with line c.outputs.result.now closing.drives) c.drive.ensures ∙ ap (λ (words : List ℤ). drive_with l.drive words closing.drives) c.outputs.ensures.value in
    let closes = subst (λ (own : List ℤ). Closes (g.E.Engine.meaning s.chassis) s.leg own s.from_left c.args.packet s.state.state c.close-closed.new.self.state closing) c.write.ensures
    (subst (λ (ps : List Point). Closes (g.E.Engine.meaning ps) s.leg c.write.new.packet s.from_left c.args.packet s.state.state c.close-closed.new.self.state closing) i.program c.in-Ok.ensures.closed) in
    let note : Option (List ℤ) → Bool → Bool → NoteData = λ drive arith marked. record {
      verdict = s.verdict;
      time = s.voted.dt;
      values = s.voted.values.list;
      judged = closing.judged;
      drive = drive;
      arith = arith;
      marked = marked;
    } in
    let notes = c.add.ensures.notes
    ∙ ap (λ (x : Option (List ℤ)). s.log.notes ++ note x c.flag.result c.has_mark.result ∷ []) driven
    ∙ ap (λ (x : Bool). s.log.notes ++ note (drive_with l.drive s.result.outputs closing.drives) x c.has_mark.result ∷ []) c.flag.ensures
    ∙ ap (λ (x : Bool). s.log.notes ++ note (drive_with l.drive s.result.outputs closing.drives) s.result.flag x ∷ []) c.has_mark.ensures in
    let new : LegValue = record {
      leg = s.leg;
      points = s.chassis;
      tape = s.tape;
      finished = s.finished + 1;
      given = c.add.new.self.given;
      notes = c.add.new.self.notes;
      marks = s.marks;
      config = config_kept s.starved p.PutLeftReadings c.close-closed.new.self.state s.verdict (voted_of s.voted) s.result s.from_left;
    } in
    subst (λ (v : LegValue). Takes (g.E.Engine.meaning v.points) v new c.args.packet) c.self.view_is
    (concluded (g.E.Engine.meaning s.chassis) s.leg s.chassis s.tape s.finished s.log.given c.add.new.self.given s.log.notes c.add.new.self.notes s.marks s.starved s.place s.state.state c.close-closed.new.self.state s.verdict (voted_of s.voted) s.result s.from_left c.args.packet closing
    c.if-self.false at closes c.add.ensures.given notes)
