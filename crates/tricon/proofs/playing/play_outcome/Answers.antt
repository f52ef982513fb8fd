use denote.Param.Send.{sendable}
use Rattle.st_build.proofs.Crossing.{program_send}
use Rattle.tricon.proofs.playing.play_outcome.Goals as goal

pub play_workers-played-requires-send-E-Program : goal.play_workers-played-requires-send-E-Program
play_workers-played-requires-send-E-Program g c κs = λ _. search (program_send, sendable)
