use Rattle.scan_machine.proofs.Sound.{keeps_address, keeps_constant, keeps_target, keeps_depth}
use Rattle.scan_machine.proofs.verified.keeps.Goals as goal

pub returns-in-Address : goal.returns-in-Address
returns-in-Address c =
    keeps_address c.has_words.result c.args.code.now c.args.words c.args.place c.args.rule _ c.requires.place c.in-Address.is c.has_words.ensures

pub returns-in-Constant : goal.returns-in-Constant
returns-in-Constant c =
    keeps_constant c.has_constants.result c.args.code.now c.args.words c.args.place c.args.rule _ c.requires.place c.in-Constant.is c.has_constants.ensures

pub returns-in-Target : goal.returns-in-Target
returns-in-Target c =
    keeps_target c.has_target.result c.args.code.now c.args.words c.args.place c.args.rule _ c.requires.place c.in-Target.is c.has_target.ensures

pub returns-in-Depth : goal.returns-in-Depth
returns-in-Depth c =
    keeps_depth c.has_depth.result c.args.code.now c.args.words c.args.place c.args.rule _ c.requires.place c.args.depth c.requires.depth c.in-Depth.is c.has_depth.ensures
