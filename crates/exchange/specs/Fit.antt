-- Facts that fit their tree: refusal 8 is of those that do not.
-- Renders document 01, table, number 8: "X repeated, its child or form unknown, or its count isn't target (topmost is an exchange or round robin),
-- 1 (topmost is a merge), the T count (form 0, whose order is T's too); a Y bit beyond the children, a `const` bit beyond the entries".
use Rattle.std.specs.Prelude.{ℕ, zero, suc, ◌/◌, Bool, true, false, cond, not, ◌&&◌, ◌||◌, List, [], ◌∷◌, eqb, leb, length}
use Rattle.std.proofs.Math.Option.{Option, some, none as nothing}
use Rattle.exchange.specs.Trees.{node, root, Plan}
use Rattle.exchange.specs.declared.settings.Settings.{Settings}
use Rattle.exchange.specs.Settings.{is_set}
use Rattle.exchange.specs.Forms.{form_of}
use Rattle.exchange.specs.Facts.{Facts, Row}
use Rattle.exchange.specs.Children.{remove_dist_changing_operators}
use Rattle.exchange.specs.States.{Child, children_from, count_of}

-- ---- masks

-- no bit of the mask beyond the first n
unfoldable pub within_bits : ℕ → ℕ → Bool
within_bits zero mask = eqb mask 0
within_bits (suc n) mask = within_bits n (mask / 2)

-- the same of every mask
unfoldable pub all_within_bits : ℕ → List ℕ → Bool
all_within_bits n [] = true
all_within_bits n (m ∷ ms) = within_bits n m && all_within_bits n ms

-- ---- rows

-- a row of the same child and form
unfoldable pub is_repeated : Row → List Row → Bool
is_repeated x [] = false
is_repeated x (y ∷ ys) = (eqb x.child y.child && eqb x.form y.form) || is_repeated x ys

-- no child and form twice
unfoldable pub none_repeated : List Row → Bool
none_repeated [] = true
none_repeated (x ∷ xs) = not (is_repeated x xs) && none_repeated xs

-- the child of that number, if there is one
unfoldable pub child_numbered : ℕ → List Child → Option Child
child_numbered n [] = nothing
child_numbered n (c ∷ cs) = let found = child_numbered n cs in cond (eqb c.number n) (some c) found

-- the count by what is topmost: an exchange or round robin, a merge, the split source, the child itself
abbrev pub count_fits : Settings → Child → Row → Bool
count_fits s c x =
    let f = form_of x.form in
    cond (is_set f.relationship || leb 2 f.top) (eqb x.count s.target)
    (cond (eqb f.top 1) (eqb x.count 1)
    (cond (is_set f.split) true
    (eqb x.count (count_of c) && eqb x.order (root c.plan).order)))

-- of a known child: its count, and no constant beyond its entries
abbrev pub row_fits_child : Settings → Row → Option Child → Bool
row_fits_child s x nothing = false
row_fits_child s x (some c) = count_fits s c x && within_bits c.facts.entries x.const

-- a known form of a known child
abbrev pub row_fits : Settings → List Child → Row → Bool
row_fits s cs x = leb x.form 15 && row_fits_child s x (child_numbered x.child cs)

-- every row
unfoldable pub rows_fit : Settings → List Child → List Row → Bool
rows_fit s cs [] = true
rows_fit s cs (x ∷ xs) = row_fits s cs x && rows_fit s cs xs

-- ---- both, of a worked node's children

-- rows and masks
abbrev pub children_fit : Settings → Facts → List Child → Bool
children_fit s f cs = none_repeated f.rows && (rows_fit s cs f.rows && all_within_bits (length cs) f.masks)

-- of the worked node with all below it
abbrev pub worked_fits : Settings → Facts → Plan → Bool
worked_fits s f (node o ts) = children_fit s f (children_from 1 ts f.children)

-- of the tree on the sheet
unfoldable pub facts_fit : Settings → Facts → Plan → Bool
facts_fit s f t = worked_fits s f (remove_dist_changing_operators t)
