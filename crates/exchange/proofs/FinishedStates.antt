-- The children of the worked node after the relationship rounds, beside the children they were (`Finished`): each is what its form makes of it.
use Rattle.std.specs.Prelude.{◌≤◌, ◌≡◌, List, [], ◌∷◌}
use Rattle.std.proofs.Math.Option.{some}
use Rattle.exchange.specs.Forms.{form_number, form_of}
use Rattle.exchange.specs.Facts.{Row, row_of}
use Rattle.exchange.specs.States.{Child, ChildState, need_of}
use Rattle.exchange.proofs.ReachedStates.{Reached}
use Rattle.exchange.specs.Built.{built}

module _ (rows : List Row) where
  -- a state on its way from that child
  pub record From (k : Child) (c : ChildState) : Type 0 where
    pub number : c.number ≡ k.number
    pub facts : c.facts ≡ k.facts
    pub need : c.need ≡ need_of k
    pub reached : Reached rows k.plan c

  -- the same by the form alone: its number is one of sixteen, its row is there, and its tree is built by it
  pub record End (k : Child) (c : ChildState) : Type 0 where
    pub number : c.number ≡ k.number
    pub facts : c.facts ≡ k.facts
    pub need : c.need ≡ need_of k
    pub small : form_number c.form ≤ 15
    pub whole : form_of (form_number c.form) ≡ c.form
    pub row : row_of rows k.number c.form ≡ some c.row
    pub plan : c.plan ≡ built rows k.number c.form k.plan

  -- of each child and its state, in order
  pub data Finished : List Child → List ChildState → Type 0 where
    over : Finished [] []
    beside : {k : Child} {c : ChildState} {ks : List Child} {cs : List ChildState} → End k c → Finished ks cs → Finished (k ∷ ks) (c ∷ cs)
