-- The pieces of a text that is written.
use Rattle.std.proofs.Common.{◌≡◌, ℕ, List, [], ◌∷◌, ◌++◌, map, flat_map, decimal, codes, refl, sym, ap, ◌∙◌, append_assoc}
use Rattle.std.proofs.lemmas.Grind.{flat_map-append}
use Rattle.tri_base.specs.declared.point.Point.{Point}
use Rattle.script_lines.specs.Lines.{lines_of, ended}
use Rattle.script_text.specs.IsScript.{IsBlock, AreMoments}
use Rattle.script_text.specs.MomentValue.{MomentValue}
use Rattle.script_text.specs.ScriptValue.{ScriptValue}
use Rattle.script_writer.specs.Canonical.{spaced, point_words, block_lines, schedule_lines, moment_lines, canonical_text}
use Rattle.script_writer.specs.Inner.Adding.{MomentsAre, moment_text, head_text, tail_text}
use Rattle.script_writer.proofs.Round.{block_lines_again}

-- a block's lines and its end are its text and its end
pub block_text : (text : List ℕ) → IsBlock text → flat_map ended (lines_of text ++ codes "ENDTEXT" ∷ []) ≡ text ++ codes "ENDTEXT\n"
block_text text (lines, is, h, bytes) =
    flat_map-append ended (lines_of text) (codes "ENDTEXT" ∷ [])
    ∙ ap (λ t. t ++ codes "ENDTEXT\n") (ap (flat_map ended) (ap lines_of is ∙ block_lines_again lines h) ∙ sym is)

moments_text : (points : List Point) (moments : List MomentValue) → flat_map ended (flat_map (moment_lines points) moments) ≡ flat_map (moment_text points) moments
unfolding moment_text
moments_text points [] = refl
moments_text points (m ∷ moments) = flat_map-append ended (moment_lines points m) (flat_map (moment_lines points) moments) ∙ ap (λ t. flat_map ended (moment_lines points m) ++ t) (moments_text points moments)

-- the whole is its head and its tail
pub canonical_pieces : (v : ScriptValue) → canonical_text v ≡ head_text v ++ tail_text v
canonical_pieces v =
    let points = map (λ p. spaced (point_words p)) v.points in
    let block = block_lines (codes "TEXT") v.text in
    let moments = flat_map (moment_lines v.points) v.moments in
    let scans = spaced (codes "SCANS" ∷ decimal v.scans ∷ []) in
    let tail = schedule_lines v.schedule ++ (scans ∷ (moments ++ codes "END" ∷ [])) in
    let behind : flat_map ended tail ≡ tail_text v = flat_map-append ended (schedule_lines v.schedule) (scans ∷ (moments ++ codes "END" ∷ [])) ∙ ap (λ t. flat_map ended (schedule_lines v.schedule) ++ (ended scans ++ t)) (flat_map-append ended moments (codes "END" ∷ []) ∙ ap (λ t. t ++ codes "END\n") (moments_text v.points v.moments)) in
    let program : flat_map ended (block ++ tail) ≡ flat_map ended block ++ tail_text v = flat_map-append ended block tail ∙ ap (λ t. flat_map ended block ++ t) behind in
    ap (λ t. codes "TRICON 1\n" ++ t)
    (flat_map-append ended points (block ++ tail)
    ∙ (ap (λ t. flat_map ended points ++ t) program
    ∙ sym (append_assoc (flat_map ended points) (flat_map ended block) (tail_text v))))

pub moments_are : (points : List Point) (last scans : ℕ) (moments : List MomentValue) → AreMoments points last scans moments → MomentsAre points moments
moments_are points last scans [] h = tt
moments_are points last scans (m ∷ moments) h = (h.2, moments_are points m.scan scans moments h.3)
