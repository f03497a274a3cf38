-- `line_at` meets its contract: each way out is a case of the line at the place.
use native.Mathlib.Omega.{arith}
use Rattle.text.proofs.LineCases.{at_end_lem, empty_line, other, cut, bare, no_comma, unended, whole}
use Rattle.text.proofs.line.line_at.Goals as goal
use Rattle.text.proofs.line.line_at.Goals.{then-s-at-via-then-s-at, then-s-at-via-else-s-at+then-s-at-eq10, then-s-at-via-else-s-at+else-s-at-eq10+then-s-at-2}

pub returns-then-s-at : goal.returns-then-s-at
returns-then-s-at c =
    let a = c.args in
    elim c.then-s-at.branch [
      | then-s-at-via-then-s-at w ↦ let both = at_end_lem a.letter a.s.now a.at a.out.now (omega (arith, w.if-s-at.true)) in record { answer = both.0; stored = both.1 }
      | then-s-at-via-else-s-at+then-s-at-eq10 w ↦ let both = empty_line a.letter a.s.now a.at a.out.now (omega (arith, w.if-s-at.false)) (omega (arith, w.if-s-at-eq10.true)) in record { answer = both.0; stored = both.1 }
      | then-s-at-via-else-s-at+else-s-at-eq10+then-s-at-2 w ↦
          let both = other a.letter a.s.now a.at a.out.now (omega (arith, w.if-s-at.false)) (λ e. omega (arith, w.if-s-at-eq10.false)) (λ e. omega (arith, w.if-s-at-2.true)) in record { answer = both.0; stored = both.1 }
    ]

pub returns-then-s-p : goal.returns-then-s-p
returns-then-s-p c = let a = c.args in let both = cut a.letter a.s.now a.at a.out.now (omega arith) (λ e. omega arith) (omega arith) (omega arith) in record { answer = both.0; stored = both.1 }

pub returns-then-s-p-eq10 : goal.returns-then-s-p-eq10
returns-then-s-p-eq10 c = let a = c.args in let both = bare a.letter a.s.now a.at a.out.now (omega arith) (λ e. omega arith) (omega arith) (omega arith) (omega arith) in record { answer = both.0; stored = both.1 }

pub returns-then-s-p-ne44 : goal.returns-then-s-p-ne44
returns-then-s-p-ne44 c = let a = c.args in let both = no_comma a.letter a.s.now a.at a.out.now (omega arith) (λ e. omega arith) (omega arith) (omega arith) (λ e. omega arith) (λ e. omega arith) in record { answer = both.0; stored = both.1 }

pub returns-then-s-f : goal.returns-then-s-f
returns-then-s-f c = let a = c.args in let both = unended a.letter a.s.now a.at a.out.now (omega arith) (λ e. omega arith) (omega arith) (omega arith) (λ e. omega arith) (omega arith) _ c.fields_at-f.ensures.counted _ c.fields_at-f.ensures.stored (omega arith) in record { answer = both.0; stored = both.1 }

pub returns : goal.returns
returns c = let a = c.args in let both = whole a.letter a.s.now a.at a.out.now (omega arith) (λ e. omega arith) (omega arith) (omega arith) (λ e. omega arith) (omega arith) _ c.fields_at-f.ensures.counted _ c.fields_at-f.ensures.stored (omega arith) in record { answer = both.0; stored = both.1 }
