-- Nobody has to believe what stands here: it serves private functions alone.
-- Three packets that spell the same readings.
use Rattle.std.specs.Prelude.{◌≡◌, ℕ, ℤ, Option, Some, List, Bool, false}
use Rattle.tri_base.specs.declared.leg.Triple.{Triple}
use Rattle.tri_base.specs.declared.point.Point.{Point}
use Rattle.leg_packet.specs.Readings.{Readings}
use Rattle.leg_packet.specs.declared.views.InView.{InView}
use Rattle.input_legs.specs.Marks.{counted_row}
use Rattle.input_legs.specs.VotedSheets.{read_three}

-- The same readings of each leg.
abbrev pub three_times : Readings → Triple (Option Readings)
three_times r = record { a = Some r; b = Some r; c = Some r }

-- All three packets spell what a view shows.
abbrev pub SpellAll : List Point → Triple (List ℤ) → InView → Type 0
SpellAll points packets view =
    read_three points packets ≡ three_times (record { time = view.dt; values = view.values.now })

-- No leg disagrees.
abbrev pub no_disagreement : Triple Bool
no_disagreement = record { a = false; b = false; c = false }

-- A row of counts where no leg disagrees.
abbrev pub agreed_row : Triple ℕ → Triple ℕ
agreed_row row = counted_row row no_disagreement
