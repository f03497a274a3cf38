-- Sheets of the folder examples on the worked node, the steps and the rounds, as rows of one table, by computation.
use mathlib.Core.Path.{refl}
use mathlib.Core.Option.{some, none as nothing}
use mathlib.Core.List.{List, [], ◌∷◌}
use Rattle.exchange.specs.Trees.{node, none, ◌∷ᶠ◌}
use Rattle.exchange.specs.Facts.{row_of}
use Rattle.exchange.specs.Operators.{above}
use Rattle.exchange.specs.Children.{any_unspecified, update_each, remove_dist_changing_operators}
use Rattle.exchange.specs.States.{children_from, each_of}
use Rattle.exchange.specs.Status.{needs_alignment}
use Rattle.exchange.specs.Step.{ensure_child}
use Rattle.exchange.specs.Relationships.{given_set, any_givable, round, rounds}
use Rattle.exchange.specs.Replace.{replace_order_preserving_variants}
use Rattle.exchange.specs.Order.{kept_entries, handle_order}
use Rattle.exchange.specs.Ensure.{missing_row, unenforceable, all_layouts, child_states, handled, finished, ensured}
use Rattle.exchange.proofs.Cases.{Case, Right, settings, child, row, facts, line, told, leaf, answer}

abbrev pub rows : List Case
rows =
    -- decision 1: a merge with a limit is the worked node, and keeps it
    record {
      settings = settings 4 0 0 8192 0 9 0 0 0;
      facts =
          facts 0 0 0 0
          (child 0 1 2 0 0 0 0 ∷ [])
          (row 1 0 2 0 0 0 0 0 0 0 0 0 1 ∷ [])
          (0 ∷ 0 ∷ []);
      plan = above (line 1 1 1 0 (some 5) 1 0 0) (leaf (line 2 0 2 0 nothing 1 0 0));
      answer = answer 1 0 0 0 (above (told 1 1 1 0 (some 5) 1 0 0 0) (leaf (told 2 0 2 0 nothing 1 0 1 0)));
    }
    -- decision 2: the mark of a worked node under the root is set anew
    ∷ record {
      settings = settings 4 0 0 8192 0 9 0 0 0;
      facts =
          facts 0 0 0 0
          (child 0 1 2 0 0 0 0 ∷ [])
          (row 1 0 2 0 0 0 0 0 0 0 0 0 0 ∷ [])
          (0 ∷ 0 ∷ []);
      plan = above (line 1 3 4 0 nothing 0 0 0) (above (line 2 0 2 0 nothing 0 0 0) (leaf (line 3 0 2 0 nothing 0 1 0)));
      answer = answer 1 0 0 1 (above (told 2 0 2 0 nothing 0 0 1 0) (leaf (told 3 0 2 0 nothing 0 0 1 0)));
    }
    -- decision 19: an exchange that a round gives has no row: 9, though the next round would fail
    ∷ record {
      settings = settings 4 0 0 8192 0 9 0 0 0;
      facts =
          facts 0 0 0 0
          (child 0 1 2 0 0 0 0 ∷ child 0 1 2 0 0 0 0 ∷ [])
          (row 1 0 1 0 0 1 1 0 0 0 0 0 0 ∷ row 2 0 1 0 0 0 0 0 0 0 0 0 0 ∷ [])
          (1 ∷ 2 ∷ 0 ∷ 0 ∷ []);
      plan = node (line 1 0 1 0 nothing 0 0 0) (leaf (line 2 0 1 0 nothing 0 0 2) ∷ᶠ leaf (line 3 0 1 0 nothing 0 0 1) ∷ᶠ none);
      answer = missing_row;
    }
    -- decision 19: its row is there: 11
    ∷ record {
      settings = settings 4 0 0 8192 0 9 0 0 0;
      facts =
          facts 0 0 0 0
          (child 0 1 2 0 0 0 0 ∷ child 0 1 2 0 0 0 0 ∷ [])
          (row 1 0 1 0 0 1 1 0 0 0 0 0 0 ∷ row 1 8 4 1 1 1 1 0 0 0 0 0 0 ∷ row 2 0 1 0 0 0 0 0 0 0 0 0 0 ∷ [])
          (1 ∷ 2 ∷ 0 ∷ 0 ∷ []);
      plan = node (line 1 0 1 0 nothing 0 0 0) (leaf (line 2 0 1 0 nothing 0 0 2) ∷ᶠ leaf (line 3 0 1 0 nothing 0 0 1) ∷ᶠ none);
      answer = unenforceable;
    }
    -- decision 20: the marks of a partial aggregate count for no other operator
    ∷ record {
      settings = settings 4 1 0 8192 0 9 1 0 0;
      facts =
          facts 0 0 1 1
          (child 1 1 2 0 0 0 0 ∷ [])
          (row 1 0 1 0 0 0 0 0 0 0 0 0 0 ∷ row 1 6 4 0 0 0 0 0 0 0 0 0 0 ∷ [])
          (0 ∷ 0 ∷ []);
      plan = above (line 1 0 1 0 nothing 0 0 0) (leaf (line 2 0 1 0 nothing 0 0 0));
      answer = answer 1 0 0 0 (above (told 1 0 1 0 nothing 0 0 0 0) (above (told 0 13 4 0 nothing 0 0 1 0) (leaf (told 2 0 1 0 nothing 0 0 1 0))));
    }
    -- decision 20: and for that one they do: no round robin
    ∷ record {
      settings = settings 4 1 0 8192 0 9 1 0 0;
      facts =
          facts 0 0 1 1
          (child 1 1 2 0 0 0 0 ∷ [])
          (row 1 0 1 0 0 0 0 0 0 0 0 0 0 ∷ row 1 6 4 0 0 0 0 0 0 0 0 0 0 ∷ [])
          (0 ∷ 0 ∷ []);
      plan = above (line 1 8 1 0 nothing 0 0 0) (leaf (line 2 0 1 0 nothing 0 0 0));
      answer = answer 1 0 0 0 (above (told 1 8 1 0 nothing 0 0 0 0) (leaf (told 2 0 1 0 nothing 0 0 1 0)));
    }
    -- decision 30: merge or coalesce by the row under it, the order by its own
    ∷ record {
      settings = settings 4 0 0 8192 0 9 0 0 0;
      facts =
          facts 0 0 0 0
          (child 0 1 2 0 0 0 0 ∷ [])
          (row 1 0 2 0 0 0 0 0 0 0 0 0 0 ∷ row 1 2 1 0 0 0 0 0 0 0 0 0 3 ∷ [])
          (0 ∷ 0 ∷ []);
      plan = above (line 1 0 1 0 nothing 0 0 0) (leaf (line 2 0 2 0 nothing 0 0 1));
      answer = answer 1 0 0 0 (above (told 1 0 1 0 nothing 0 0 0 0) (above (told 0 2 1 0 nothing 3 0 1 1) (leaf (told 2 0 2 0 nothing 0 0 1 1))));
    }
    -- O5: a round robin is asked by the count after the split too
    ∷ record {
      settings = settings 4 1 1 8192 0 9 0 0 0;
      facts =
          facts 0 0 0 0
          (child 1 1 2 0 0 1 0 ∷ [])
          (row 1 0 1 0 0 0 0 0 0 0 0 0 0 ∷ row 1 1 4 0 0 0 0 0 0 0 0 0 0 ∷ row 1 7 4 0 0 0 0 0 0 0 0 0 0 ∷ [])
          (0 ∷ 0 ∷ []);
      plan = above (line 1 0 1 0 nothing 0 0 0) (leaf (line 2 0 1 0 nothing 0 0 0));
      answer = answer 1 0 0 0 (above (told 1 0 1 0 nothing 0 0 0 0) (leaf (told 2 0 4 0 nothing 0 0 1 0)));
    }
    -- O7: one keyed child of two has partitions, so both are hashed
    ∷ record {
      settings = settings 4 0 0 8192 0 9 0 0 0;
      facts =
          facts 0 0 0 0
          (child 0 1 2 0 0 0 0 ∷ child 0 1 2 0 0 0 0 ∷ [])
          (row 1 0 2 0 0 0 0 0 0 0 0 0 0 ∷ row 1 4 4 1 1 1 1 0 0 0 0 0 0 ∷ row 2 0 1 0 0 1 1 0 0 0 0 0 0 ∷ row 2 4 4 2 1 1 1 0 0 0 0 0 0 ∷ [])
          (0 ∷ 0 ∷ 0 ∷ 0 ∷ []);
      plan = node (line 1 5 4 0 nothing 0 0 0) (leaf (line 2 0 2 0 nothing 0 0 2) ∷ᶠ leaf (line 3 0 1 0 nothing 0 0 2) ∷ᶠ none);
      answer = answer 1 0 0 0 (node (told 1 5 4 0 nothing 0 0 0 0) (above (told 0 12 4 0 nothing 0 0 1 2) (leaf (told 2 0 2 0 nothing 0 0 1 2)) ∷ᶠ above (told 0 12 4 0 nothing 0 0 1 2) (leaf (told 3 0 1 0 nothing 0 0 1 2)) ∷ᶠ none));
    }
    -- O7: no keyed child asked before the split, so one that is split keeps a need that nothing meets
    ∷ record {
      settings = settings 4 0 1 8192 0 9 0 0 0;
      facts =
          facts 0 0 0 0
          (child 0 1 2 0 0 1 0 ∷ [])
          (row 1 0 1 0 0 1 1 0 0 0 0 0 0 ∷ row 1 1 4 0 0 0 0 0 0 0 0 0 0 ∷ [])
          (0 ∷ 0 ∷ []);
      plan = above (line 1 0 1 0 nothing 0 0 0) (leaf (line 2 0 1 0 nothing 0 0 2));
      answer = answer 1 0 0 0 (above (told 1 0 1 0 nothing 0 0 0 0) (leaf (told 2 0 4 0 nothing 0 0 1 2)));
    }
    -- O9: a round passes over the child of single need and goes on
    ∷ record {
      settings = settings 4 0 0 8192 0 9 0 0 0;
      facts =
          facts 0 0 0 0
          (child 0 1 2 0 0 0 0 ∷ child 0 1 2 0 0 0 0 ∷ [])
          (row 1 0 1 0 0 1 1 0 0 0 0 0 0 ∷ row 1 8 4 1 1 1 1 0 0 0 0 0 0 ∷ row 2 0 1 0 0 0 0 0 0 0 0 0 0 ∷ [])
          (3 ∷ 0 ∷ 0 ∷ 0 ∷ []);
      plan = node (line 1 0 1 0 nothing 0 0 0) (leaf (line 2 0 1 0 nothing 0 0 2) ∷ᶠ leaf (line 3 0 1 0 nothing 0 0 1) ∷ᶠ none);
      answer = answer 1 0 0 0 (node (told 1 0 1 0 nothing 0 0 0 0) (above (told 0 12 4 0 nothing 0 0 1 2) (leaf (told 2 0 1 0 nothing 0 0 1 2)) ∷ᶠ leaf (told 3 0 1 0 nothing 0 0 1 1) ∷ᶠ none));
    }
    ∷ []

pub examples : Right rows
unfolding row_of any_unspecified update_each remove_dist_changing_operators children_from each_of needs_alignment ensure_child given_set any_givable round rounds replace_order_preserving_variants kept_entries handle_order all_layouts child_states handled finished ensured
examples = (refl, (refl, (refl, (refl, (refl, (refl, (refl, (refl, (refl, (refl, (refl, tt)))))))))))
