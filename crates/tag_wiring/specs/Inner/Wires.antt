-- Nobody has to believe what stands here: it serves private functions alone.
-- What is kept for an output point: the address of its tag's word, if it is declared, the tag's type and the range.
use Rattle.std.specs.Prelude.{ℕ, ℤ, pos, List, Option, Some, None, slice_index_or}
use Rattle.std.specs.Int.{int_max, int_min}
use Rattle.tri_base.specs.declared.point.Point.{Point}
use Rattle.function_blocks.specs.declared.kinds.Kind.{Kind}
use Rattle.function_blocks.specs.Values.{clamped}
use Rattle.st_tree.specs.declared.tag.Tag.{Tag}
use Rattle.st_meaning.specs.Types.{type_of, word_type}
use Rattle.tag_wiring.specs.declared.outputs.OutputWire.{OutputWire}
use Rattle.tag_wiring.specs.Inner.Steps.{address_for}

-- what is kept for a point
abbrev pub wire_of : List Tag → Point → OutputWire
wire_of tags p = record {
  address = address_for tags p.name;
  kind = word_type (type_of tags p.name);
  low = p.low;
  high = p.high;
}

-- the number at an address, clamped to a type and then to a range; 0 where there is no address
abbrev pub value_at : List ℤ → Kind → (low high : ℤ) → Option ℕ → ℤ
value_at words k low high None = pos 0
value_at words k low high (Some address) =
    int_max low (int_min (clamped k (slice_index_or words address (pos 0))) high)

-- the value of the point
abbrev pub value_in : List ℤ → OutputWire → ℤ
value_in words w = value_at words w.kind w.low w.high w.address
