use Rattle.std.proofs.Common.{◌≡◌, ◌∙◌, ap, sym, true, arith, ◌++◌, subst, OnOk, List, ℕ, [], if◌then◌else◌}
use Rattle.std.specs.Str.{bytes_eq}
use Rattle.std.proofs.lemmas.Grind.{common_steps}
use Rattle.tri_base.specs.Inner.NameFields.{same_name}
use Rattle.cause_effect.specs.declared.matrix.Link.{Link}
use Rattle.cause_effect.specs.Matrices.{level_of}
use Rattle.cause_effect.specs.Programs.{cause_term}
use Rattle.cause_effect.specs.Inner.Terms.{link_term}
use Rattle.cause_effect.proofs.Tables.{same_bytes}
use Rattle.cause_effect.proofs.program.push_link.Goals as goal

pub returns : goal.returns
returns c =
    let link : Link = c.args.link.now in
    let effect : List ℕ = c.args.effect.now in
    let m = c.args.matrix.now in
    let same : same_name link.effect effect ≡ true = grind (arith, common_steps) in
    let hit : bytes_eq link.effect effect ≡ true = sym (same_bytes link.effect effect) ∙ same in
    let term : cause_term c.level.result link.cause ≡ link_term m effect link =
    ap (λ l. cause_term l link.cause) c.level.ensures ∙ sym (ap (λ t. if t then cause_term (level_of m link.cause) link.cause else []) hit) in
    subst (λ (t : List ℕ). OnOk c.push_cause.result (c.push_cause.new.text.list ≡ c.args.text.now.list ++ t)) term c.push_cause.ensures
