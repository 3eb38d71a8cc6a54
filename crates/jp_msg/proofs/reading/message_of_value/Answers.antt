use Rattle.jp_msg.proofs.Texts.{found_if_given, only_if_given}
use Rattle.jp_msg.proofs.reading.message_of_value.Goals as goal

pub returns-clause-found : goal.returns-clause-found
returns-clause-found c = found_if_given c.message_given.result c.args.json.now c.message_given.ensures

pub returns-clause-only : goal.returns-clause-only
returns-clause-only c = only_if_given c.message_given.result c.args.json.now c.message_given.ensures
