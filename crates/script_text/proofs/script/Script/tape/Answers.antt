use Rattle.std.proofs.Common.{◌≡◌, ◌∙◌, sym, ap, length, List, subst}
use Rattle.std.specs.List.{All}
use Rattle.chassis.specs.Ranges.{Fits}
use Rattle.script_text.specs.LegScans.{LegScan, IsReadable, TapeValue, tape_of}
use Rattle.script_text.specs.Inner.LegParts.{places_from, rows_from, all_said, scans_kept, MomentsFit, RowValue, RowsSorted, LinesSorted}
use Rattle.script_text.proofs.Readable.{all_read}
use Rattle.script_text.proofs.Fits.{moments_fit, first_inputs}
use Rattle.script_text.proofs.Tapes.{first_reads, rise, rows_sorted, said_sorted, tape_is}
use Rattle.script_text.proofs.script.Script.tape.Goals as goal

pub rows_for-requires : goal.rows_for-requires
rows_for-requires c =
    let v = c.args.self.now.value in
    let points = c.points-points.ensures.value ∙ c.chassis.ensures in
    let places = c.as_slice.ensures.value ∙ (c.in_ok-places.ensures ∙ ap (places_from 0) points) in
    let start = c.in_ok-start.ensures ∙ ap first_reads points in
    let long = ap (λ (r : RowValue). length r.readings) start ∙ first_inputs v.points in
    let fit = subst (All Fits) c.chassis.ensures c.points-points.ensures.chassis.fit in
    let fits = moments_fit v.points 0 v.scans v.moments fit c.moments.ensures.script.moments in
    subst (λ ms. MomentsFit c.as_slice.result.now (length c.in_ok-start.start.readings) ms) (sym c.moments.ensures.value)
    (subst (λ ps. MomentsFit ps (length c.in_ok-start.start.readings) v.moments) (sym places)
    (subst (λ n. MomentsFit (places_from 0 v.points) n v.moments) (sym long) fits))

pub invariant_of-result : goal.invariant_of-result
invariant_of-result c =
    let v = c.args.self.now.value in
    let rises = rise v.points 0 v.scans v.moments c.moments.ensures.script.moments in
    let rows = c.in_ok-rows.ensures ∙ ap (rows_from c.as_slice.result.now c.args.leg c.in_ok-start.start) c.moments.ensures.value in
    let lines = c.in_ok-all_lines.ensures ∙ ap (all_said c.args.leg) c.moments-2.ensures.value in
    record {
      rows = subst RowsSorted (sym rows) (rows_sorted c.as_slice.result.now c.args.leg 0 c.in_ok-start.start v.moments rises);
      lines = subst LinesSorted (sym lines) (said_sorted c.args.leg 0 v.moments rises);
    }

pub returns-clause-tape : goal.returns-clause-tape
returns-clause-tape c =
    let v = c.args.self.now.value in
    let points = c.points-points.ensures.value ∙ c.chassis.ensures in
    let places = c.as_slice.ensures.value ∙ (c.in_ok-places.ensures ∙ ap (places_from 0) points) in
    let start = c.in_ok-start.ensures ∙ ap first_reads points in
    let rows = c.in_ok-rows.ensures ∙ (λ i. rows_from (places i) c.args.leg (start i) (c.moments.ensures.value i)) in
    let lines = c.in_ok-all_lines.ensures ∙ ap (all_said c.args.leg) c.moments-2.ensures.value in
    let whole : scans_kept c.scans.result (Rattle.script_text.specs.contracts.row.Row.the_view c.start.inside) c.in_ok-rows.rows.items c.in_ok-all_lines.field-0.items ≡ (tape_of v c.args.leg).scans =
    (λ i. scans_kept (c.scans.ensures i) ((c.start.view_is ∙ start) i) (rows i) (lines i)) ∙ tape_is v c.args.leg c.moments.ensures.script in
    ap (λ (scans : List LegScan). record { scans = scans }) whole

pub returns-clause-readable : goal.returns-clause-readable
returns-clause-readable c =
    let v = c.args.self.now.value in
    let fit = subst (All Fits) c.chassis.ensures c.points-points.ensures.chassis.fit in
    subst (λ (t : TapeValue). All (IsReadable v.points) t.scans) (sym (returns-clause-tape c)) (all_read v c.args.leg c.moments.ensures.script fit)
