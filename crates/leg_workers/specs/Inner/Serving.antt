-- One need of a leg, served at its post.
-- Nobody has to believe this: it serves private functions alone.
use Rattle.std.specs.Prelude.{◌≡◌, ℤ, List}
use Rattle.engine_face.specs.Meaning.{Meaning}
use Rattle.leg_laws.specs.declared.need.Need.{Need}
use Rattle.leg_laws.specs.declared.need.Need.TheVariants.{Put, Take, Done}
use Rattle.leg_laws.specs.ExchangeSteps.{Puts, Takes}
use Rattle.leg_laws.specs.SentTaken.{sent_more, taken_more}
use Rattle.leg_workers.specs.Working.{LegAtPost}

-- what the leg puts is put at the post, and what the post takes the leg takes; a leg that is done stays as it is
abbrev pub ServesNeed : Meaning → Need → (was now : LegAtPost) → Type 0
ServesNeed m (Put side) was now =
    (packet : List ℤ) × Puts m was.0 now.0 packet
    × (now.1 ≡ record was.1 { lists = sent_more side packet was.1.lists })
ServesNeed m (Take side) was now =
    (packet : List ℤ) × Takes m was.0 now.0 packet
    × (now.1 ≡ record was.1 { lists = taken_more side packet was.1.lists })
ServesNeed m Done was now = now ≡ was
