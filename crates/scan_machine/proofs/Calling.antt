-- A block's words after a call.
use Rattle.std.proofs.Common.{◌≡◌, ℕ, ◌+◌, ◌-◌, ◌<◌, ℤ, List, ◌++◌, length, take, drop, arith, sym, ap, refl, ◌∙◌}
use borrow.Rule.Slice.PartMut.{post_of}
use Rattle.function_blocks.specs.declared.blocks.BlockKind.{BlockKind}
use Rattle.function_blocks.specs.declared.blocks.BlockKind.TheVariants as block
use Rattle.function_blocks.specs.Fields.{field_count}
use Rattle.function_blocks.specs.Blocks.{step_block}
use Rattle.scan_machine.specs.Machine.{words_at, with_words}

pub length-step_block : (kind : BlockKind) (dt : ℤ) (fields : List ℤ) → length (step_block kind dt fields) ≡ field_count kind
length-step_block block.RTrig dt fields = refl
length-step_block block.FTrig dt fields = refl
length-step_block block.Sr dt fields = refl
length-step_block block.Rs dt fields = refl
length-step_block block.Ctu dt fields = refl
length-step_block block.Ctd dt fields = refl
length-step_block block.Ton dt fields = refl
length-step_block block.Tof dt fields = refl
length-step_block block.Tp dt fields = refl

pub called_words : (kind : BlockKind) (dt dt' : ℤ) (address n : ℕ) (words new : List ℤ) → n ≡ field_count kind → dt' ≡ dt
    → new ≡ step_block kind dt' (take (address + n - address) (drop address words))
    → take address words ++ (new ++ post_of address (address + n - address) words) ≡ with_words words address (step_block kind dt (words_at words address (field_count kind)))
called_words kind dt dt' address n words new count same is =
    let size : address + n - address ≡ field_count kind = omega arith in
    let f = step_block kind dt (words_at words address (field_count kind)) in
    let e : new ≡ f = is ∙ (ap (λ t. step_block kind t (take (address + n - address) (drop address words))) same ∙ ap (λ k. step_block kind dt (take k (drop address words))) size) in
    ap (λ l. take address words ++ (l ++ post_of address (address + n - address) words)) e
    ∙ ap (λ k. take address words ++ (f ++ drop k (drop address words))) (size ∙ sym (length-step_block kind dt (words_at words address (field_count kind))))

-- a block has a field
pub fields_some : (kind : BlockKind) → 0 < field_count kind
fields_some block.RTrig = omega arith
fields_some block.FTrig = omega arith
fields_some block.Sr = omega arith
fields_some block.Rs = omega arith
fields_some block.Ctu = omega arith
fields_some block.Ctd = omega arith
fields_some block.Ton = omega arith
fields_some block.Tof = omega arith
fields_some block.Tp = omega arith
