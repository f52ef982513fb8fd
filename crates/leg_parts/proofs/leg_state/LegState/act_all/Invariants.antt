use Rattle.std.proofs.Common.{◌≡◌, map, take}
use Rattle.script_text.specs.Acts.{act_of}
use Rattle.leg_laws.specs.FaultLines.{acted_all}
use Rattle.leg_parts.proofs.leg_state.LegState.act_all.Given as goal

-- the lines so far are done
abbrev pub invariant-loop-act : goal.invariant-loop-act
invariant-loop-act g l = record {
  state : l.self.state ≡ acted_all (g.E.Engine.meaning l.fn.self.points) l.fn.self.state (map act_of (take l.act-index l.acts));
  points : l.self.points ≡ l.fn.self.points;
}
