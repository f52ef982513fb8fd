-- The words of a program hold its values.
use Rattle.std.proofs.Common.{◌≡◌, ℕ, List, [], ◌∷◌, ◌++◌, length, map, refl, sym, ap, ◌∙◌, subst}
use Rattle.tri_base.specs.declared.point.Point.{Point}
use Rattle.st_tree.specs.declared.program.Tree.{Tree}
use Rattle.tag_layout.specs.Layout.{AreApart, name_and_count, laid_words, first_environment, first_words}
use Rattle.tag_layout.proofs.Apart.{apart_of}
use Rattle.tag_layout.proofs.FirstValues.{first_laid}
use Rattle.download_change.proofs.Parts.{carried_laid}
use Rattle.st_core.specs.Environments.{Env}
use Rattle.st_core.specs.Memory.{shape_of, words_of, total_of}
use Rattle.st_sound.specs.Shapes.{shape_in}
use Rattle.tag_wiring.specs.HeldEnvironments.{env_in}
use Rattle.tag_wiring.proofs.Holding.{held_shape, held_words}
use Rattle.tag_wiring.proofs.Declaring.{total_same}
use Rattle.st_build.specs.Building.{Runs, tags_at}
use Rattle.st_build.specs.Laws.{WordsHoldValues, ProgramsHoldValues}
use Rattle.st_build.specs.Inner.Judged.{program_is}
use Rattle.st_build.specs.Inner.MeaningLaws.{own_tags}

-- the two notions of an environment's words and counts are one
counted : (env : Env) → map name_and_count env ≡ shape_of env
unfolding shape_of
counted [] = refl
counted (t ∷ ts) = ap (λ rest. (t.0, length t.1) ∷ rest) (counted ts)

in_a_row : (env : Env) → words_of env ≡ laid_words env
unfolding words_of laid_words
in_a_row [] = refl
in_a_row (t ∷ ts) = ap (λ ws. t.1 ++ ws) (in_a_row ts)

pub words_hold_values : WordsHoldValues
words_hold_values tags words count =
    let all : length words ≡ total_of (shape_in tags) = count ∙ sym (total_same tags) in
    let env = env_in (shape_in tags) words in
    (counted env ∙ held_shape (shape_in tags) words all, sym (held_words (shape_in tags) words all) ∙ in_a_row env)

-- no two tags of a program have one name
program_apart : (points : List Point) (text : List ℕ) (tree : Tree) → Runs points text tree → AreApart (tags_at points text)
program_apart points text tree runs =
    subst AreApart (sym (own_tags points text tree (((program_is points text).program tree).1 runs))) (apart_of points tree runs.is.typed)

pub programs_hold_values : ProgramsHoldValues
programs_hold_values points old d words before after runs_before runs_after count =
    let olds = tags_at points old in
    let news = tags_at points d.text in
    record {
      first = first_laid news;
      carried = carried_laid olds news d.renames (env_in (shape_in olds) words) (first_environment news) words (first_words news)
          (program_apart points old before runs_before) (program_apart points d.text after runs_after)
          (words_hold_values olds words count) (first_laid news);
    }
