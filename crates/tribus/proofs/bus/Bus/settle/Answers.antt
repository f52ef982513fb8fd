use Rattle.tribus.proofs.SettledLinks.{delivers}
use Rattle.tribus.proofs.bus.Bus.settle.Goals as goal

pub returns-clause-whole : goal.returns-clause-whole
returns-clause-whole g c =
    delivers _ _ _ _ _ _ c.settle.ensures.whole c.settle-2.ensures.whole c.settle-3.ensures.whole
    c.settle-4.ensures.whole c.settle-5.ensures.whole c.settle-6.ensures.whole
