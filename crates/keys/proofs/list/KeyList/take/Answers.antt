-- The entry at a place becomes the placeholder (`key_changed`).
use Rattle.keys.specs.Expressions.{gone_number}
use Rattle.keys.proofs.Turns.{key_changed}
use Rattle.keys.proofs.list.KeyList.take.Goals as goal

pub returns-clause-keys : goal.returns-clause-keys
returns-clause-keys c = let s = c.args.self.now in key_changed s.items s.count c.args.p c.requires (record { number = gone_number })
