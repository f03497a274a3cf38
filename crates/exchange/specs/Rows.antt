-- An operator as a row of eleven numbers, and a tree as its rows in preorder.
-- Renders document 01, "T lines in preorder" and "An absent limit is an empty field": here a mark beside the number.
use Rattle.std.specs.Prelude.{ℕ, zero, suc, cond, List, [], ◌∷◌, ◌++◌, eqb, get_or}
use Rattle.std.proofs.Math.Option.{Option, none as absent, some}
use Rattle.exchange.specs.declared.row.Node.{Node}
use Rattle.exchange.specs.Trees.{node, none, ◌∷ᶠ◌, trees, Operator, Plan, Plans}

-- ---- a row and the struct

abbrev pub packed : Node → ℕ → List ℕ
packed n children =
    n.id ∷ n.kind ∷ n.count ∷ n.keeps ∷ n.limited ∷ n.limit ∷ n.order ∷ n.mask ∷ n.tracked ∷ n.need ∷ children ∷ []

abbrev pub unpacked : List ℕ → Node
unpacked x =
    record {
      id = get_or x 0 0;
      kind = get_or x 1 0;
      count = get_or x 2 0;
      keeps = get_or x 3 0;
      limited = get_or x 4 0;
      limit = get_or x 5 0;
      order = get_or x 6 0;
      mask = get_or x 7 0;
      tracked = get_or x 8 0;
      need = get_or x 9 0;
    }

abbrev pub children_of : List ℕ → ℕ
children_of x = get_or x 10 0

abbrev pub node_at : List (List ℕ) → ℕ → Node
node_at rows i = unpacked (get_or rows i [])

abbrev pub children_at : List (List ℕ) → ℕ → ℕ
children_at rows i = children_of (get_or rows i [])

-- ---- the struct and the operator

abbrev pub limit_mark : Option ℕ → ℕ
limit_mark absent = 0
limit_mark (some l) = 1

abbrev pub limit_number : Option ℕ → ℕ
limit_number absent = 0
limit_number (some l) = l

abbrev pub limit_of : ℕ → ℕ → Option ℕ
limit_of mark l = cond (eqb mark 0) absent (some l)

abbrev pub node_of : Operator → Node
node_of o =
    record {
      id = o.id;
      kind = o.kind;
      count = o.count;
      keeps = o.keeps;
      limited = limit_mark o.limit;
      limit = limit_number o.limit;
      order = o.order;
      mask = o.mask;
      tracked = o.tracked;
      need = o.need;
    }

abbrev pub operator_of : Node → Operator
operator_of n =
    record {
      id = n.id;
      kind = n.kind;
      count = n.count;
      keeps = n.keeps;
      limit = limit_of n.limited n.limit;
      order = n.order;
      mask = n.mask;
      tracked = n.tracked;
      need = n.need;
    }

-- ---- a tree and its rows

unfoldable pub row_of : Operator → ℕ → List ℕ
row_of o children = packed (node_of o) children

unfoldable mutual
  pub flatten : Plan → List (List ℕ)
  flatten (node o ts) = row_of o (trees ts) ∷ flattens ts

  pub flattens : Plans → List (List ℕ)
  flattens none = []
  flattens (t ∷ᶠ ts) = flatten t ++ flattens ts

-- the first k trees, and the others
abbrev pub firsts : ℕ → Plans → Plans
firsts zero ts = none
firsts (suc k) none = none
firsts (suc k) (t ∷ᶠ ts) = t ∷ᶠ firsts k ts

abbrev pub others : ℕ → Plans → Plans
others zero ts = ts
others (suc k) none = none
others (suc k) (t ∷ᶠ ts) = others k ts

-- from the last row to the first: a row takes its children off the front of what follows it
unfoldable pub grow : List (List ℕ) → Plans
grow [] = none
grow (x ∷ xs) = let ts = grow xs in node (operator_of (unpacked x)) (firsts (children_of x) ts) ∷ᶠ others (children_of x) ts
