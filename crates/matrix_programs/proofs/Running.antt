-- The program of a matrix runs.
use Rattle.std.proofs.Common.{◌≡◌, ℕ, ◌+◌, ◌≤◌, List, [], ◌∷◌, ◌++◌, length, map, fold, Option, Some, None, option_to_list, refl, sym, ap, ◌∙◌, subst, arith, length-append}
use Rattle.std.specs.List.{All, sum_by}
use Rattle.std.proofs.lemmas.List.{length-map}
use Rattle.std.proofs.lemmas.List.Elements.{All-head, All-tail}
use Rattle.function_blocks.specs.declared.kinds.Kind.TheVariants as kind
use Rattle.st_tree.specs.declared.declaration.DeclaredType.TheVariants as declared
use Rattle.st_tree.specs.declared.program.Tree.{Tree}
use Rattle.st_tree.specs.declared.tag.Tag.{Tag}
use Rattle.st_tree.specs.Tags.{tags_of}
use Rattle.tag_layout.specs.Layout.{total_words, words_of_tag, words_of, type_of}
use Rattle.st_front.specs.FrontEnd.{IsProgram}
use Rattle.st_build.specs.Building.{Runs}
use Rattle.st_build.specs.Inner.Judged.{program_is}
use Rattle.tri_base.specs.declared.point.Point.{Point}
use Rattle.cause_effect.specs.Matrices.{MatrixValue, IsMatrix, cause_names, effect_names, declared_names}
use Rattle.matrix_laws.specs.Laws as laws
use Rattle.matrix_laws.proofs.Scanned.{programs_do_steps}
use Rattle.matrix_programs.specs.Laws.{RunsMatrix, MatricesRun}

-- as many words as tags
words_from : (n : ℕ) (tags : List Tag) → All (λ (t : Tag). t.declared ≡ declared.Simple kind.Bool) tags → fold (λ a t. a + words_of_tag t) n tags ≡ n + length tags
words_from n [] h = omega arith
words_from n (t ∷ tags) h =
    let one : words_of_tag t ≡ 1 = ap (λ d. words_of (type_of d)) (All-head (λ (t : Tag). t.declared ≡ declared.Simple kind.Bool) t tags h) in
    words_from (n + words_of_tag t) tags (All-tail (λ (t : Tag). t.declared ≡ declared.Simple kind.Bool) t tags h) ∙ omega (arith, one)

words_counted : (tags : List Tag) → All (λ (t : Tag). t.declared ≡ declared.Simple kind.Bool) tags → total_words tags ≡ length tags
words_counted tags h = words_from 0 tags h ∙ omega arith

one_reset : (reset : Option (List ℕ)) → length (option_to_list reset) ≤ 1
one_reset None = omega arith
one_reset (Some r) = omega arith

few_words : (m : MatrixValue) (tree : Tree) → IsMatrix m → laws.IsSmall m tree → total_words (tags_of tree) ≤ 4096
few_words m tree is small =
    let names : length (tags_of tree) ≡ length (declared_names m) = sym (length-map (tags_of tree) (λ (t : Tag). t.name)) ∙ ap length small.tags in
    omega (
      arith,
      words_counted (tags_of tree) small.bools,
      names,
      is.few_causes,
      is.few_effects,
      one_reset m.reset,
      length-append (cause_names m ++ effect_names m) (option_to_list m.reset),
      length-append (cause_names m) (effect_names m),
      length-map m.causes (λ c. c.0),
      length-map m.effects (λ e. e.0),
    )

pub matrices_run : MatricesRun
matrices_run points m is chassis suits short =
    let all = programs_do_steps m is in
    let tree = all.0 in
    let has = all.1 in
    let here = all.3 points chassis suits in
    let runs : Runs points (Rattle.cause_effect.specs.Programs.program_of m) tree = record {
      is = record {
        has = record { tokens = has.tokens; has = record { short = short; lexes = has.lexes }; low = has.low; spells = has.spells };
        typed = here.0;
        few = few_words m tree is all.2;
      };
      cheap = omega (arith, all.2.cheap, short);
    } in
    (tree, record { runs = runs; builds = ((program_is points (Rattle.cause_effect.specs.Programs.program_of m)).program tree).1 runs; steps = here.1 })
