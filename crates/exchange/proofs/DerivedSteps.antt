-- Marks, gains and exchanges of one child: places of 000 that no sheet of the folder examples reaches.
-- Each answer is derived by hand from the sentence above it, and holds by computation.
use mathlib.Core.Path.{refl}
use mathlib.Core.Option.{none as nothing}
use mathlib.Core.List.{List, [], ◌∷◌}
use Rattle.exchange.specs.Trees.{node, none, ◌∷ᶠ◌}
use Rattle.exchange.specs.Facts.{row_of}
use Rattle.exchange.specs.Operators.{above}
use Rattle.exchange.specs.Children.{any_unspecified, update_each, remove_dist_changing_operators}
use Rattle.exchange.specs.States.{children_from, each_of}
use Rattle.exchange.specs.Status.{needs_alignment}
use Rattle.exchange.specs.Step.{ensure_child}
use Rattle.exchange.specs.Relationships.{given_set, any_givable, round, rounds}
use Rattle.exchange.specs.Replace.{replace_order_preserving_variants}
use Rattle.exchange.specs.Order.{kept_entries, handle_order}
use Rattle.exchange.specs.Ensure.{all_layouts, child_states, handled, finished, ensured}
use Rattle.exchange.proofs.Cases.{Case, Right, settings, child, row, facts, line, told, leaf, answer}

abbrev pub rows : List Case
rows =
    -- 000: Inexact(n) gains where estimates are used and n > batch_size
    record {
      settings = settings 4 1 0 8192 1 9 0 0 0;
      facts =
          facts 0 0 0 0
          (child 1 1 1 8193 0 0 0 ∷ [])
          (row 1 0 1 0 0 0 0 0 0 0 0 0 0 ∷ row 1 6 4 0 0 0 0 0 0 0 0 0 0 ∷ [])
          (0 ∷ 0 ∷ []);
      plan = above (line 1 0 1 0 nothing 0 0 0) (leaf (line 2 0 1 0 nothing 0 0 0));
      answer = answer 1 0 0 0 (above (told 1 0 1 0 nothing 0 0 0 0) (above (told 0 13 4 0 nothing 0 0 1 0) (leaf (told 2 0 1 0 nothing 0 0 1 0))));
    }
    -- 01: a new exchange keeps order if what it stands on has an order and more than one partition
    ∷ record {
      settings = settings 4 0 0 8192 0 9 0 0 0;
      facts =
          facts 0 0 0 0
          (child 0 1 2 0 0 0 0 ∷ [])
          (row 1 0 2 0 0 0 0 0 0 0 0 0 1 ∷ row 1 4 4 1 1 1 1 0 0 0 0 0 1 ∷ [])
          (0 ∷ 0 ∷ []);
      plan = above (line 1 0 4 0 nothing 0 0 0) (leaf (line 2 0 2 0 nothing 1 0 2));
      answer = answer 1 0 0 0 (above (told 1 0 4 0 nothing 0 0 0 0) (above (told 0 12 4 1 nothing 1 0 1 2) (leaf (told 2 0 2 0 nothing 1 0 1 2))));
    }
    -- the same over one partition: hashing gains, and no order is kept across one
    ∷ record {
      settings = settings 4 0 0 8192 0 9 0 0 0;
      facts =
          facts 0 0 0 0
          (child 1 1 2 0 0 0 0 ∷ [])
          (row 1 0 1 0 0 1 1 0 0 0 0 0 1 ∷ row 1 4 4 1 1 1 1 0 0 0 0 0 1 ∷ [])
          (0 ∷ 0 ∷ []);
      plan = above (line 1 0 4 0 nothing 0 0 0) (leaf (line 2 0 1 0 nothing 1 0 2));
      answer = answer 1 0 0 0 (above (told 1 0 4 0 nothing 0 0 0 0) (above (told 0 12 4 0 nothing 1 0 1 2) (leaf (told 2 0 1 0 nothing 1 0 1 2))));
    }
    -- 000: for joins in partitioned mode and sort-merge joins subsets do not satisfy, though the threshold is met
    ∷ record {
      settings = settings 4 0 0 8192 0 4 0 0 0;
      facts =
          facts 0 0 0 0
          (child 0 1 2 0 0 0 0 ∷ child 0 1 2 0 0 0 0 ∷ [])
          (row 1 0 4 1 1 0 1 0 0 0 0 0 0 ∷ row 1 4 4 2 1 1 1 0 0 0 0 0 0 ∷ row 2 0 4 2 1 1 1 0 0 0 0 0 0 ∷ [])
          (0 ∷ 0 ∷ 0 ∷ 0 ∷ []);
      plan = node (line 1 6 4 0 nothing 0 0 0) (leaf (line 2 0 4 0 nothing 0 0 2) ∷ᶠ leaf (line 3 0 4 0 nothing 0 0 2) ∷ᶠ none);
      answer = answer 1 0 0 0 (node (told 1 6 4 0 nothing 0 0 0 0) (above (told 0 12 4 0 nothing 0 0 1 2) (leaf (told 2 0 4 0 nothing 0 0 1 2)) ∷ᶠ leaf (told 3 0 4 0 nothing 0 0 1 2) ∷ᶠ none));
    }
    -- 000: with subset satisfaction an already satisfying partitioning stays, though the target is higher
    ∷ record {
      settings = settings 4 0 0 8192 0 2 0 0 0;
      facts =
          facts 0 0 0 0
          (child 0 1 2 0 0 0 0 ∷ [])
          (row 1 0 2 1 0 0 1 0 0 0 0 0 0 ∷ [])
          (0 ∷ 0 ∷ []);
      plan = above (line 1 0 4 0 nothing 0 0 0) (leaf (line 2 0 2 0 nothing 0 0 2));
      answer = answer 1 0 0 0 (above (told 1 0 4 0 nothing 0 0 0 0) (leaf (told 2 0 2 0 nothing 0 0 1 2)));
    }
    -- 000: a partial aggregate whose output does not satisfy the final one is given its round robin
    ∷ record {
      settings = settings 4 1 0 8192 0 9 1 0 0;
      facts =
          facts 0 0 1 0
          (child 1 1 2 0 0 0 0 ∷ [])
          (row 1 0 1 0 0 0 0 0 0 0 0 0 0 ∷ row 1 6 4 0 0 0 0 0 0 0 0 0 0 ∷ [])
          (0 ∷ 0 ∷ []);
      plan = above (line 1 8 1 0 nothing 0 0 0) (leaf (line 2 0 1 0 nothing 0 0 0));
      answer = answer 1 0 0 0 (above (told 1 8 1 0 nothing 0 0 0 0) (above (told 0 13 4 0 nothing 0 0 1 0) (leaf (told 2 0 1 0 nothing 0 0 1 0))));
    }
    -- 000: preserve_file_partitions counts from its own number of partitions on: one is below two
    ∷ record {
      settings = settings 4 1 0 8192 0 9 2 0 0;
      facts =
          facts 0 0 1 1
          (child 1 1 2 0 0 0 0 ∷ [])
          (row 1 0 1 0 0 0 0 0 0 0 0 0 0 ∷ row 1 6 4 0 0 0 0 0 0 0 0 0 0 ∷ [])
          (0 ∷ 0 ∷ []);
      plan = above (line 1 8 1 0 nothing 0 0 0) (leaf (line 2 0 1 0 nothing 0 0 0));
      answer = answer 1 0 0 0 (above (told 1 8 1 0 nothing 0 0 0 0) (above (told 0 13 4 0 nothing 0 0 1 0) (leaf (told 2 0 1 0 nothing 0 0 1 0))));
    }
    -- 000: partitioned joins require exact satisfaction; if it passes, preserve_file_partitions skips a repartitioning that only adds partitions
    ∷ record {
      settings = settings 4 0 0 8192 0 9 2 0 0;
      facts =
          facts 0 0 0 0
          (child 0 1 2 0 0 0 0 ∷ child 0 1 2 0 0 0 0 ∷ [])
          (row 1 0 2 1 0 1 1 0 0 0 0 0 0 ∷ row 2 0 2 1 0 1 1 0 0 0 0 0 0 ∷ [])
          (0 ∷ 0 ∷ 0 ∷ 0 ∷ []);
      plan = node (line 1 5 2 0 nothing 0 0 0) (leaf (line 2 0 2 0 nothing 0 0 2) ∷ᶠ leaf (line 3 0 2 0 nothing 0 0 2) ∷ᶠ none);
      answer = answer 1 0 0 0 (node (told 1 5 2 0 nothing 0 0 0 0) (leaf (told 2 0 2 0 nothing 0 0 1 2) ∷ᶠ leaf (told 3 0 2 0 nothing 0 0 1 2) ∷ᶠ none));
    }
    -- 000: a need with the grouping id is not preserved for its files
    ∷ record {
      settings = settings 4 0 0 8192 0 9 2 0 0;
      facts =
          facts 0 0 0 0
          (child 0 1 2 0 1 0 0 ∷ [])
          (row 1 0 2 1 0 1 1 0 0 0 0 0 0 ∷ row 1 4 4 1 1 1 1 0 0 0 0 0 0 ∷ [])
          (0 ∷ 0 ∷ []);
      plan = above (line 1 0 2 0 nothing 0 0 0) (leaf (line 2 0 2 0 nothing 0 0 2));
      answer = answer 1 0 0 0 (above (told 1 0 2 0 nothing 0 0 0 0) (above (told 0 12 4 0 nothing 0 0 1 2) (leaf (told 2 0 2 0 nothing 0 0 1 2))));
    }
    -- 000: a round robin only where the operator benefits from input partitioning
    ∷ record {
      settings = settings 4 1 0 8192 0 9 0 0 0;
      facts =
          facts 0 0 0 0
          (child 0 1 2 0 0 0 0 ∷ [])
          (row 1 0 1 0 0 0 0 0 0 0 0 0 0 ∷ [])
          (0 ∷ 0 ∷ []);
      plan = above (line 1 0 1 0 nothing 0 0 0) (leaf (line 2 0 1 0 nothing 0 0 0));
      answer = answer 1 0 0 0 (above (told 1 0 1 0 nothing 0 0 0 0) (leaf (told 2 0 1 0 nothing 0 0 1 0)));
    }
    -- 01: split where `split` and its `splits` are 1 and its rows gain: 8192 rows of a batch of 8192 do not
    ∷ record {
      settings = settings 4 0 1 8192 0 9 0 0 0;
      facts =
          facts 0 0 0 0
          (child 1 1 0 8192 0 1 0 ∷ [])
          (row 1 0 1 0 0 0 0 0 0 0 0 0 0 ∷ [])
          (0 ∷ 0 ∷ []);
      plan = above (line 1 0 1 0 nothing 0 0 0) (leaf (line 2 0 1 0 nothing 0 0 0));
      answer = answer 1 0 0 0 (above (told 1 0 1 0 nothing 0 0 0 0) (leaf (told 2 0 1 0 nothing 0 0 1 0)));
    }
    -- 000: no repartitioning where `repartitioned` gives none (`splits` 0)
    ∷ record {
      settings = settings 4 0 1 8192 0 9 0 0 0;
      facts =
          facts 0 0 0 0
          (child 1 1 2 0 0 0 0 ∷ [])
          (row 1 0 1 0 0 0 0 0 0 0 0 0 0 ∷ [])
          (0 ∷ 0 ∷ []);
      plan = above (line 1 7 1 0 nothing 0 0 0) (leaf (line 2 0 1 0 nothing 0 0 0));
      answer = answer 1 0 0 0 (above (told 1 7 1 0 nothing 0 0 0 0) (leaf (told 2 0 1 0 nothing 0 0 1 0)));
    }
    -- 000, update_children: a tracked child of which nothing is required marks its parent, though it is not the first
    ∷ record {
      settings = settings 4 0 0 8192 0 9 0 0 0;
      facts =
          facts 0 0 0 0
          (child 0 1 2 0 0 0 0 ∷ [])
          (row 1 0 1 0 0 0 0 0 0 0 0 0 0 ∷ [])
          (0 ∷ 0 ∷ []);
      plan = above (line 1 0 1 0 nothing 0 0 0) (node (line 2 0 1 0 nothing 0 0 0) (leaf (line 3 0 1 0 nothing 0 0 0) ∷ᶠ leaf (line 4 0 1 0 nothing 0 1 0) ∷ᶠ none));
      answer = answer 1 0 0 0 (above (told 1 0 1 0 nothing 0 0 0 0) (node (told 2 0 1 0 nothing 0 0 1 0) (leaf (told 3 0 1 0 nothing 0 0 0 0) ∷ᶠ leaf (told 4 0 1 0 nothing 0 0 1 0) ∷ᶠ none)));
    }
    -- the same, but something is required of it: no mark
    ∷ record {
      settings = settings 4 0 0 8192 0 9 0 0 0;
      facts =
          facts 0 0 0 0
          (child 0 1 2 0 0 0 0 ∷ [])
          (row 1 0 1 0 0 0 0 0 0 0 0 0 0 ∷ [])
          (0 ∷ 0 ∷ []);
      plan = above (line 1 0 1 0 nothing 0 0 0) (node (line 2 0 1 0 nothing 0 1 0) (leaf (line 3 0 1 0 nothing 0 0 0) ∷ᶠ leaf (line 4 0 1 0 nothing 0 1 2) ∷ᶠ none));
      answer = answer 1 0 0 0 (above (told 1 0 1 0 nothing 0 0 0 0) (node (told 2 0 1 0 nothing 0 0 0 0) (leaf (told 3 0 1 0 nothing 0 0 0 0) ∷ᶠ leaf (told 4 0 1 0 nothing 0 0 1 2) ∷ᶠ none)));
    }
    -- 000, update_children: a coalesce is tracked whatever stands below, and so is a repartition that is not of unknown partitioning
    ∷ record {
      settings = settings 4 0 0 8192 0 9 0 0 0;
      facts =
          facts 0 0 0 0
          (child 0 1 2 0 0 0 0 ∷ child 0 1 2 0 0 0 0 ∷ [])
          (row 1 0 1 0 0 0 0 0 0 0 0 0 0 ∷ row 2 0 4 0 0 0 0 0 0 0 0 0 0 ∷ [])
          (0 ∷ 0 ∷ 0 ∷ 0 ∷ []);
      plan = node (line 1 0 1 0 nothing 0 0 0) (above (line 2 2 1 0 nothing 0 0 0) (leaf (line 3 0 2 0 nothing 0 0 0)) ∷ᶠ above (line 4 3 4 0 nothing 0 0 0) (leaf (line 5 0 2 0 nothing 0 0 0)) ∷ᶠ none);
      answer = answer 1 0 0 0 (node (told 1 0 1 0 nothing 0 0 0 0) (above (told 2 2 1 0 nothing 0 0 1 0) (leaf (told 3 0 2 0 nothing 0 0 0 0)) ∷ᶠ above (told 4 3 4 0 nothing 0 0 1 0) (leaf (told 5 0 2 0 nothing 0 0 0 0)) ∷ᶠ none));
    }
    ∷ []

pub derived : Right rows
unfolding row_of any_unspecified update_each remove_dist_changing_operators children_from each_of needs_alignment ensure_child given_set any_givable round rounds replace_order_preserving_variants kept_entries handle_order all_layouts child_states handled finished ensured
derived = (refl, (refl, (refl, (refl, (refl, (refl, (refl, (refl, (refl, (refl, (refl, (refl, (refl, (refl, (refl, tt)))))))))))))))
