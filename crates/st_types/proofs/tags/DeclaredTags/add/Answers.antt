use Rattle.std.proofs.Common.{◌≡◌, List, [], ◌∷◌, ◌++◌, length, is_ok, sym, ap, ◌∙◌, if◌then◌else◌}
use Rattle.std.specs.Map.{lookup}
use Rattle.tri_base.specs.Inner.NameFields.{same_name}
use Rattle.st_tree.specs.declared.tag.Tag.{Tag}
use Rattle.st_types.specs.Inner.Places.{place_of, with_first}
use Rattle.st_types.proofs.Placed.{placed}
use Rattle.st_types.proofs.tags.DeclaredTags.add.Goals as goal

pub invariant_of-self-2 : goal.invariant_of-self-2
invariant_of-self-2 c =
    let tag = c.args.tag in
    let before : List Tag = c.self.inside.tags.items in
    let kept : List Tag = c.reserve.new.self.items in
    let pushed : c.push.new.self.items ≡ before ++ tag ∷ [] =
    c.push.ensures.items ∙ (ap (λ t. if t then kept ++ tag ∷ [] else kept) (ap is_ok c.unwrap.ensures) ∙ ap (λ ts. ts ++ tag ∷ []) c.reserve.ensures.items) in
    let place : c.len.result ≡ length before = c.len.ensures ∙ (c.reserve.new.self.ok.0 ∙ ap length c.reserve.ensures.items) in
    let places : c.note_first.new.places.entries ≡ with_first c.self.inside.places.entries tag.name (length before) =
    c.in_ok-note_first.ensures.noted ∙ ap (with_first c.self.inside.places.entries tag.name) place in
    record { places = λ n. ap (lookup (same_name n)) places ∙ (placed before tag c.self.inside.places.entries c.self.invariant.places n ∙ ap (λ ts. place_of ts n) (sym pushed)) }
