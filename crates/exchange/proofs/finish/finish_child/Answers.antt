-- `exchange::finish::finish_child` meets its contract: the child is built in `mid`, and its handling written from there (`finish_wrote`).
use native.Mathlib.Omega.{arith}
use Rattle.exchange.specs.Built.{built}
use Rattle.exchange.proofs.FinishWritten.{front_in, finish_ready, finish_wrote}
use Rattle.exchange.proofs.finish.finish_child.Goals as goal

pub node_at-top-requires : goal.node_at-top-requires
node_at-top-requires c = omega (arith, front_in (built _ _ _) _ _ _ _ _ c.requires.ready c.build_child-read.ensures, c.build_child-read.auto.dst)

pub put_handled-put-requires : goal.put_handled-put-requires
put_handled-put-requires c = finish_ready _ _ _ _ _ _ _ _ _ _ _ _ _ _ c.requires.ready c.build_child-read.ensures _ c.node_at-top.ensures _ c.row_in-x.ensures _ c.known.ensures _ c.handle_order-h.ensures _ c.output_fetch.ensures _ _ c.requires.ready_2

pub returns : goal.returns
returns c = finish_wrote _ _ _ _ _ _ _ _ _ _ _ _ _ _ c.requires.ready c.build_child-read.ensures _ c.node_at-top.ensures _ c.row_in-x.ensures _ c.known.ensures _ c.handle_order-h.ensures _ c.output_fetch.ensures _ _ _ _ c.put_handled-put.ensures
