-- A child's tree in its last form, after order handling: built in one run of rows, handled into another.
-- Assumes nothing.
use Prim.Native.Nat.{ℕ, ◌+◌, ◌≤◌, ◌<◌}
use mathlib.Core.Path.{◌≡◌, sym, ap, ap₂, ◌∙◌}
use mathlib.Core.List.{List, ◌++◌}
use mathlib.Core.Option.{Option}
use native.Mathlib.Omega.{arith}
use lib.ListN.{length, drop}
use Rattle.exchange.specs.declared.row.Node.{Node}
use Rattle.exchange.specs.declared.row.Step.{Step}
use Rattle.exchange.specs.declared.settings.Settings.{Settings}
use Rattle.exchange.specs.declared.order.Handling.{Handling}
use Rattle.exchange.specs.declared.order.Known.{Known}
use Rattle.exchange.specs.Trees.{root, Operator, Plan}
use Rattle.exchange.specs.Forms.{Form}
use Rattle.exchange.specs.Facts.{NodeFacts, ChildFacts, Row}
use Rattle.exchange.specs.Order.{output_fetch}
use Rattle.exchange.specs.Handling.{handling_of, handled_by}
use Rattle.exchange.specs.Built.{row_in, built}
use Rattle.exchange.specs.LastForm.{in_form, finished_child, known_by}
use Rattle.exchange.specs.Rows.{node_at, operator_of, flatten}
use Rattle.exchange.specs.Runs.{Ready, Maps}
use Rattle.exchange.proofs.Grown.{one_tree}
use Rattle.exchange.proofs.TreeRows.{tree_long}
use Rattle.exchange.proofs.Marking.{root_read}
use Rattle.exchange.proofs.Handled.{order_handled}
use Rattle.exchange.proofs.OrderWritten.{stored_there}

-- a tree that is built at the front of a run stands there
module _ (f : Plan → Plan) (src : List (List ℕ)) (at : ℕ) (mid mid₁ : List (List ℕ)) (read : Step) (p : Ready f src at (length mid) 0) (w : Maps f src at mid 0 mid₁ read) where
  pub front : (t : Plan) (rest : List (List ℕ)) → drop at src ≡ flatten t ++ rest → drop 0 mid₁ ≡ flatten (f t) ++ drop (0 + length (flatten (f t))) mid
  front t rest h =
      let same : p.tree ≡ t = one_tree p.tree t p.rest rest (sym p.stands ∙ h) in
      let fits : 0 + length (flatten (f t)) ≤ length mid = omega (arith, p.fits, ap (λ (v : Plan). length (flatten (f v))) same) in
      ap (drop 0) (w t rest h).stored ∙ stored_there mid (flatten (f t)) 0 fits

  pub front_in : 0 < length mid
  front_in = omega (arith, p.fits, tree_long (f p.tree))

module _ (rows : List Row) (child : ℕ) (f : Form) (need : ℕ) (facts : ChildFacts) (s : Settings) (b : NodeFacts) (worked : Operator) (children : ℕ) where
  abbrev finish : Plan → Plan
  finish = finished_child rows child f need facts s b worked children

  module _ (src : List (List ℕ)) (at : ℕ) (mid mid₁ : List (List ℕ)) (read : Step) (p : Ready (built rows child f) src at (length mid) 0) (w : Maps (built rows child f) src at mid 0 mid₁ read)
      (top : Node) (is-top : top ≡ node_at mid₁ 0) (x : Row) (is_row : x ≡ row_in rows child f)
      (k : Known) (is_Known : k ≡ known_by s b worked.kind children need top.tracked facts x)
      (h : Handling) (is-handling : h ≡ handling_of k) (limit : Option ℕ) (is-limit : limit ≡ output_fetch worked) where
    handled_so : (t : Plan) (rest : List (List ℕ)) → drop at src ≡ flatten t ++ rest → finish t ≡ handled_by h limit (built rows child f t)
    unfolding finished_child
    handled_so t rest e =
        let mark : top.tracked ≡ (root (built rows child f t)).tracked =
        ap (λ (o : Operator). o.tracked) (ap operator_of is-top ∙ root_read mid₁ 0 (built rows child f t) _ (front (built rows child f) src at mid mid₁ read p w t rest e)) in
        let all : k ≡ known_by s b worked.kind children need (root (built rows child f t)).tracked facts (row_in rows child f) =
        is_Known ∙ ap₂ (λ (m : ℕ) (y : Row). known_by s b worked.kind children need m facts y) mark is_row in
        order_handled s b worked children (in_form rows child f need facts t)
        ∙ ap₂ (λ (g : Handling) (l : Option ℕ). handled_by g l (built rows child f t)) (sym (is-handling ∙ ap handling_of all)) (sym is-limit)

    pub finish_ready : (room to : ℕ) → Ready finish src at room to → Ready (handled_by h limit) mid₁ 0 room to
    finish_ready room to q =
        record {
          tree = built rows child f q.tree;
          rest = _;
          stands = front (built rows child f) src at mid mid₁ read p w q.tree q.rest q.stands;
          fits = omega (arith, q.fits, ap (λ (v : Plan). length (flatten v)) (handled_so q.tree q.rest q.stands));
        }

    pub finish_wrote : (to : ℕ) (d d₁ : List (List ℕ)) (put : Step) → Maps (handled_by h limit) mid₁ 0 d to d₁ put → Maps finish src at d to d₁ (record { at = read.at; to = put.to })
    finish_wrote to d d₁ put m t rest e =
        let u = m (built rows child f t) _ (front (built rows child f) src at mid mid₁ read p w t rest e) in
        rw (handled_so t rest e) (record { read = (w t rest e).read; written = u.written; stored = u.stored })
