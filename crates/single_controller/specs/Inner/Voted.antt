-- Nobody has to believe what stands here: it serves private functions alone.
-- What was voted, without the room of its list.
use Rattle.tri_base.specs.declared.voted.Voted.{Voted}
use Rattle.input_legs.specs.VotedSheets.{VotedSheet}

-- The voted time and values.
abbrev pub sheet_of : Voted → VotedSheet
sheet_of voted = record { time = voted.dt; values = voted.values.list }
