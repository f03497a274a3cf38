-- `ensure_worked` meets its contract: by what the states came to.
use Rattle.ensure.proofs.Forming.{ends_finished}
use Rattle.ensure.proofs.worked.ensure_worked.Goals as goal

pub returns : goal.returns
returns c = let a = c.args in ends_finished a.s a.f.node a.f.children.now a.f.xs.rows.now a.f.masks.now a.src.rows.now a.src.at _ _ c.worked_forms.ensures _ c.in_ok-worked_forms.was _ _ _ c.finish_worked.ensures
