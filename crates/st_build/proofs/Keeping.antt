-- What a kept program is over points.
use Rattle.std.proofs.Common.{◌≡◌, ℕ, ℤ, List, length, None, Ok, sym, ap, ◌∙◌, subst}
use Rattle.tri_base.specs.declared.point.Point.{Point}
use Rattle.st_tree.specs.declared.tag.Tag.{Tag}
use Rattle.st_tree.specs.declared.program.Tree.{Tree}
use Rattle.st_tree.specs.Programs.{Spells}
use Rattle.st_tree.specs.Tags.{tags_of}
use Rattle.st_parser.proofs.ProgramLaws.{one_tree}
use Rattle.st_reader.proofs.Once.{one_lexing}
use Rattle.tag_layout.specs.Layout.{total_words}
use Rattle.tag_wiring.specs.PointWords.{inputs_set}
use Rattle.tag_wiring.proofs.SettingWords.{inputs_are}
use Rattle.scan_code.specs.Compiling.{code_in}
use Rattle.st_front.specs.FrontEnd.{HasTree}
use Rattle.st_build.specs.Building.{Runs, program_of, refusal_in, tags_at}
use Rattle.st_build.specs.Inner.Kept.{KeptProgram, IsKept}
use Rattle.st_build.specs.Inner.Judged.{built}
use Rattle.st_build.specs.Inner.MeaningLaws.{own_tags}

-- a text has one tree
pub same_tree : (text : List ℕ) (a b : Tree) → HasTree text a → HasTree text b → a ≡ b
same_tree text a b x y =
    one_tree y.tokens a b (subst (Spells a) (one_lexing.tokens text x.tokens y.tokens x.has.lexes y.has.lexes) x.spells) y.spells

-- the tree of a kept program, where its text is one over the points
pub record Known (points : List Point) (p : KeptProgram) : Type 0 where
  pub tree : Tree
  pub is : program_of points p.text ≡ Ok tree
  pub runs : Runs points p.text tree
  pub tags : p.tags ≡ tags_of tree
  pub code : p.code.list ≡ code_in tree

pub known : (points : List Point) (p : KeptProgram) → IsKept p → refusal_in (program_of points p.text) ≡ None → Known points p
known points p kept e =
    let found = built points p.text e in
    let same : kept.tree ≡ found.0 = same_tree p.text kept.tree found.0 kept.has found.2.is.has in
    record {
      tree = found.0;
      is = found.1;
      runs = found.2;
      tags = kept.tags_are ∙ ap tags_of same;
      code = kept.code_is ∙ ap code_in same;
    }

pub tags_known : (points : List Point) (p : KeptProgram) → IsKept p → refusal_in (program_of points p.text) ≡ None → p.tags ≡ tags_at points p.text
tags_known points p kept e =
    let k = known points p kept e in
    k.tags ∙ sym (own_tags points p.text k.tree k.is)

-- ---- words

pub code_words : (p : KeptProgram) → IsKept p → p.code.words ≡ total_words p.tags
code_words p kept = kept.code.words ∙ ap total_words (sym kept.tags_are)

-- with the inputs set there are as many words as before
pub set_length : (points : List Point) (p : KeptProgram) (tags : List Tag) (inputs words after : List ℤ) → IsKept p → tags ≡ p.tags → length words ≡ total_words p.tags
    → after ≡ inputs_set points tags inputs words → length after ≡ length words
set_length points p tags inputs words after kept same count is =
    ap length (is ∙ ap (λ (ts : List Tag). inputs_set points ts inputs words) same)
    ∙ (inputs_are points p.tags inputs words (kept.tree, kept.tags_are) count).count
