-- The settings on the D line (target, batch, subset and files are numbers, the others marks), and the bounds that refusal 7 tests.
-- Renders document 01, "`D,target,roundrobin,split,batch,estimates,subset,files,sort,union`", and what `ensure_distribution` of 000
-- reads of its `config`.
use Rattle.std.specs.Prelude.{ℕ, Bool, cond, ◌&&◌, eqb, leb, Option, Some, None}
use Rattle.exchange.specs.declared.settings.Settings.{Settings}

-- a mark is 0 or 1; it is set where it is 1
abbrev pub is_set : ℕ → Bool
is_set m = eqb m 1

-- refusal 7: target 1..4096, batch from 1
abbrev pub least_target : ℕ
least_target = 1

abbrev pub most_target : ℕ
most_target = 4096

abbrev pub least_batch : ℕ
least_batch = 1

-- refusal 7 is of settings that do not fit
abbrev pub settings_fit : Settings → Bool
settings_fit s = leb least_target s.target && (leb s.target most_target && leb least_batch s.batch)

-- the settings, where they fit
unfoldable pub checked : Settings → Option Settings
checked s = cond (settings_fit s) (Some s) None
