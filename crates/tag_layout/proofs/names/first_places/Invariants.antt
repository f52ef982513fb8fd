use Rattle.std.proofs.Common.{◌≡◌, ℕ, List, take}
use Rattle.std.specs.Map.{lookup}
use Rattle.tri_base.specs.Inner.NameFields.{same_name}
use Rattle.st_types.specs.Inner.Places.{place_of}
use Rattle.tag_layout.proofs.names.first_places.Given as goal

abbrev pub invariant-loop-place : goal.invariant-loop-place
invariant-loop-place l = (name : List ℕ) → lookup (same_name name) l.places.entries ≡ place_of (take l.place l.tags) name
