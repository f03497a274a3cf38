-- `keys_handed`: the part handed back holds the keys of the side that was followed.
use Rattle.keys.proofs.InputLists.{keys_handed}
use Rattle.inputs.proofs.followed.reorder_join_keys_to_inputs.Goals as goal

pub returns-clause-keys : goal.returns-clause-keys
returns-clause-keys c = let x = c.args.sheet in let d = c.join_keys_to_inputs-attempt in let k = c.followed_keys-keys in
    λ s. keys_handed x.op x.mode x.left.now x.right.now s x.left_input.list x.right_input.list x.left_rewriting.now x.right_rewriting.now
    d.result (d.ensures s) k.result (rw c.side.ensures at k.ensures)
