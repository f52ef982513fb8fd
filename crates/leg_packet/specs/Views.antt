-- What a view of a packet shows.
use Rattle.std.specs.Prelude.{◌≡◌, pos, Option, Some, None}
use Rattle.leg_packet.specs.Readings.{Readings}
use Rattle.leg_packet.specs.Sheets.{Sheet, flat}
use Rattle.leg_packet.specs.declared.views.OutView.{OutView}
use Rattle.leg_packet.specs.declared.views.InView.{InView}

-- A view with the fields of a sheet.
pub record Shows (s : Sheet) (v : OutView) : Type 0 where
  pub epoch : v.epoch ≡ pos s.epoch
  pub turn : v.turn ≡ pos s.turn
  pub text_length : v.text_length ≡ pos s.text_length
  pub word_length : v.word_length ≡ pos s.word_length
  pub window : v.window.now ≡ s.window
  pub pairs : v.pairs.now ≡ flat s.pairs
  pub outputs : v.outputs.now ≡ s.outputs

-- A view exactly where there is a sheet, and of that sheet.
abbrev pub IsViewOf : Option Sheet → Option OutView → Type 0
IsViewOf (Some s) (Some v) = Shows s v
IsViewOf None None = Unit {0}
IsViewOf _ _ = ⊥

-- A view with the fields of readings.
pub record InShows (r : Readings) (v : InView) : Type 0 where
  pub dt : v.dt ≡ r.time
  pub values : v.values.now ≡ r.values

-- A view exactly where there are readings, and of those.
abbrev pub IsInViewOf : Option Readings → Option InView → Type 0
IsInViewOf (Some r) (Some v) = InShows r v
IsInViewOf None None = Unit {0}
IsInViewOf _ _ = ⊥
