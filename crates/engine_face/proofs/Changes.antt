-- What a change that nothing forbids says of its names.
use Rattle.std.proofs.Common.{◌≡◌, ℕ, List, Option, Some, None, refl}
use Rattle.tri_base.specs.Downloads.{Download}
use Rattle.engine_face.specs.declared.refusal.Refusal.{Refusal}
use Rattle.engine_face.specs.Meaning.{Meaning, first_refusal, changes, NamesKnown}

by_options : (refusal : Option Refusal) (unknown twice kind : Option (List ℕ)) → first_refusal refusal unknown twice kind ≡ None
    → (refusal ≡ None) × ((unknown ≡ None) × (twice ≡ None))
by_options (Some refusal) unknown twice kind e = absurd (cc)
by_options None (Some name) twice kind e = absurd (cc)
by_options None None (Some name) kind e = absurd (cc)
by_options None None None kind e = (refl, (refl, refl))

pub known_where_accepted : (m : Meaning) (old : List ℕ) (d : Download) → changes m old d ≡ None → (m.builds d.text ≡ None) × NamesKnown m old d
known_where_accepted m old d e = by_options (m.builds d.text) (m.unknown_name old d) (m.name_twice old d) (m.changed_kind old d) e
