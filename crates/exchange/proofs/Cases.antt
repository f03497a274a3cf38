-- A case: what a D sheet holds and what is answered, written in the order of the fields of its lines.
use Prim.Native.Nat.{ℕ}
use mathlib.Core.Path.{◌≡◌}
use mathlib.Core.Option.{Option}
use mathlib.Core.List.{List, [], ◌∷◌}
use Rattle.exchange.specs.Trees.{node, none, Operator, Plan}
use Rattle.exchange.specs.declared.settings.Settings.{Settings}
use Rattle.exchange.specs.Facts.{ChildFacts, Row, Facts}
use Rattle.exchange.specs.Ensure.{Ensured, answered, ensured}

pub record Case : Type 0 where
  pub settings : Settings
  pub facts : Facts
  pub plan : Plan
  pub answer : Ensured

-- what is answered is what the definitions give
abbrev pub Right : List Case → Type 0
Right [] = Unit {0}
Right (c ∷ cs) = (ensured c.settings c.facts c.plan ≡ c.answer) × Right cs

-- the D line
abbrev pub settings : ℕ → ℕ → ℕ → ℕ → ℕ → ℕ → ℕ → ℕ → ℕ → Settings
settings t r p b e u f s n =
    record { target = t; roundrobin = r; split = p; batch = b; estimates = e; subset = u; files = f; sort = s; union = n }

-- an F line
abbrev pub child : ℕ → ℕ → ℕ → ℕ → ℕ → ℕ → ℕ → ChildFacts
child g m k r u s e = record { gains = g; maintains = m; rowkind = k; rows = r; grouping = u; splits = s; entries = e }

-- an X line
abbrev pub row : ℕ → ℕ → ℕ → ℕ → ℕ → ℕ → ℕ → ℕ → ℕ → ℕ → ℕ → ℕ → ℕ → Row
row c f n l h e s m a k o p r = record {
  child = c;
  form = f;
  count = n;
  layout = l;
  athash = h;
  exact = e;
  subset = s;
  met = m;
  aftermet = a;
  const = k;
  ford = o;
  fplain = p;
  order = r;
}

-- the B line, then the F, X and Y lines
abbrev pub facts : ℕ → ℕ → ℕ → ℕ → List ChildFacts → List Row → List ℕ → Facts
facts f w e s cs xs ys =
    record { node = record { friendly = f; window = w; aggexact = e; aggsubset = s }; children = cs; rows = xs; masks = ys }

-- a t line: its id, and its need last, which the line does not show
abbrev pub told : ℕ → ℕ → ℕ → ℕ → Option ℕ → ℕ → ℕ → ℕ → ℕ → Operator
told i k c p l o m t n = record { id = i; kind = k; count = c; keeps = p; limit = l; order = o; mask = m; tracked = t; need = n }

-- a T line, its id in front
abbrev pub line : ℕ → ℕ → ℕ → ℕ → Option ℕ → ℕ → ℕ → ℕ → Operator
line i k c p l o t n = told i k c p l o 0 t n

abbrev pub leaf : Operator → Plan
leaf o = node o none

-- the d line, and the tree
abbrev pub answer : ℕ → ℕ → ℕ → ℕ → Plan → Ensured
answer c w i t p = answered (record { changed = c; window = w; interleave = i; tracked = t; plan = p })
