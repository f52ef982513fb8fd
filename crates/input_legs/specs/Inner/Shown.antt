-- Nobody has to believe what stands here: it serves private functions alone.
-- What the views of three packets of readings show.
use Rattle.std.specs.Prelude.{Option, Some, None}
use Rattle.tri_base.specs.declared.leg.Triple.{Triple}
use Rattle.leg_packet.specs.Readings.{Readings}
use Rattle.leg_packet.specs.declared.views.InView.{InView}

-- The readings that a view shows.
abbrev pub shown_in : Option InView → Option Readings
shown_in None = None
shown_in (Some view) = Some (record { time = view.dt; values = view.values.now })

-- The same of three views.
abbrev pub three_shown : Triple (Option InView) → Triple (Option Readings)
three_shown views = record { a = shown_in views.a; b = shown_in views.b; c = shown_in views.c }
