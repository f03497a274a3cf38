-- Marked sheets 5 to 10 of document 01, as rows of one table, by computation.
use mathlib.Core.Path.{refl}
use mathlib.Core.Option.{some, none as nothing}
use mathlib.Core.List.{List, [], ◌∷◌}
use Rattle.exchange.specs.Facts.{row_of}
use Rattle.exchange.specs.Operators.{above}
use Rattle.exchange.specs.Children.{any_unspecified, update_each, remove_dist_changing_operators}
use Rattle.exchange.specs.States.{children_from, each_of}
use Rattle.exchange.specs.Status.{needs_alignment}
use Rattle.exchange.specs.Step.{ensure_child}
use Rattle.exchange.specs.Relationships.{given_set, any_givable, round, rounds}
use Rattle.exchange.specs.Replace.{replace_order_preserving_variants}
use Rattle.exchange.specs.Order.{kept_entries, handle_order}
use Rattle.exchange.specs.Ensure.{all_layouts, child_states, handled, finished, ensured}
use Rattle.exchange.proofs.Cases.{Case, Right, settings, child, row, facts, line, told, leaf, answer}

abbrev pub rows : List Case
rows =
    -- (5) batch 8192, exact 8192 rows: no gain
    record {
      settings = settings 4 1 0 8192 0 9 0 0 0;
      facts =
          facts 0 0 0 0
          (child 1 1 0 8192 0 0 0 ∷ [])
          (row 1 0 1 0 0 0 0 0 0 0 0 0 0 ∷ row 1 6 4 0 0 0 0 0 0 0 0 0 0 ∷ [])
          (0 ∷ 0 ∷ []);
      plan = above (line 1 0 1 0 nothing 0 0 0) (leaf (line 2 0 1 0 nothing 0 0 0));
      answer = answer 1 0 0 0 (above (told 1 0 1 0 nothing 0 0 0 0) (leaf (told 2 0 1 0 nothing 0 0 1 0)));
    }
    -- (6) 8193: gain
    ∷ record {
      settings = settings 4 1 0 8192 0 9 0 0 0;
      facts =
          facts 0 0 0 0
          (child 1 1 0 8193 0 0 0 ∷ [])
          (row 1 0 1 0 0 0 0 0 0 0 0 0 0 ∷ row 1 6 4 0 0 0 0 0 0 0 0 0 0 ∷ [])
          (0 ∷ 0 ∷ []);
      plan = above (line 1 0 1 0 nothing 0 0 0) (leaf (line 2 0 1 0 nothing 0 0 0));
      answer = answer 1 0 0 0 (above (told 1 0 1 0 nothing 0 0 0 0) (above (told 0 13 4 0 nothing 0 0 1 0) (leaf (told 2 0 1 0 nothing 0 0 1 0))));
    }
    -- (7) absent: gain
    ∷ record {
      settings = settings 4 1 0 8192 0 9 0 0 0;
      facts =
          facts 0 0 0 0
          (child 1 1 2 0 0 0 0 ∷ [])
          (row 1 0 1 0 0 0 0 0 0 0 0 0 0 ∷ row 1 6 4 0 0 0 0 0 0 0 0 0 0 ∷ [])
          (0 ∷ 0 ∷ []);
      plan = above (line 1 0 1 0 nothing 0 0 0) (leaf (line 2 0 1 0 nothing 0 0 0));
      answer = answer 1 0 0 0 (above (told 1 0 1 0 nothing 0 0 0 0) (above (told 0 13 4 0 nothing 0 0 1 0) (leaf (told 2 0 1 0 nothing 0 0 1 0))));
    }
    -- (8) merge asked at count 1: none
    ∷ record {
      settings = settings 4 0 0 8192 0 9 0 0 0;
      facts =
          facts 0 0 0 0
          (child 0 1 2 0 0 0 0 ∷ [])
          (row 1 0 1 0 0 0 0 0 0 0 0 0 0 ∷ [])
          (0 ∷ 0 ∷ []);
      plan = above (line 1 0 1 0 nothing 0 0 0) (leaf (line 2 0 1 0 nothing 0 0 1));
      answer = answer 1 0 0 0 (above (told 1 0 1 0 nothing 0 0 0 0) (leaf (told 2 0 1 0 nothing 0 0 1 1)));
    }
    -- (9) at 2: one
    ∷ record {
      settings = settings 4 0 0 8192 0 9 0 0 0;
      facts =
          facts 0 0 0 0
          (child 0 1 2 0 0 0 0 ∷ [])
          (row 1 0 2 0 0 0 0 0 0 0 0 0 0 ∷ row 1 2 1 0 0 0 0 0 0 0 0 0 0 ∷ [])
          (0 ∷ 0 ∷ []);
      plan = above (line 1 0 1 0 nothing 0 0 0) (leaf (line 2 0 2 0 nothing 0 0 1));
      answer = answer 1 0 0 0 (above (told 1 0 1 0 nothing 0 0 0 0) (above (told 0 2 1 0 nothing 0 0 1 1) (leaf (told 2 0 2 0 nothing 0 0 1 1))));
    }
    -- (10) merge with limit 0: coalesce, sort above with limit 0
    ∷ record {
      settings = settings 4 0 0 8192 0 9 0 0 0;
      facts =
          facts 0 0 0 0
          (child 0 0 2 0 0 0 0 ∷ [])
          (row 1 0 1 0 0 0 0 0 0 0 0 0 1 ∷ [])
          (0 ∷ 0 ∷ []);
      plan = above (line 1 0 1 0 nothing 0 0 0) (above (line 2 1 1 0 (some 0) 1 0 0) (leaf (line 3 0 2 0 nothing 1 0 0)));
      answer = answer 1 0 0 0 (above (told 1 0 1 0 nothing 0 0 0 0) (above (told 0 11 1 0 (some 0) 1 0 0 0) (above (told 2 2 1 0 nothing 0 0 1 0) (leaf (told 3 0 2 0 nothing 1 0 0 0)))));
    }
    ∷ []

pub marked : Right rows
unfolding row_of any_unspecified update_each remove_dist_changing_operators children_from each_of needs_alignment ensure_child given_set any_givable round rounds replace_order_preserving_variants kept_entries handle_order all_layouts child_states handled finished ensured
marked = (refl, (refl, (refl, (refl, (refl, (refl, tt))))))
