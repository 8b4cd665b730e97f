use Rattle.std.proofs.Common.{◌≡◌, ◌≤◌, ℕ, None, Option, Result, Ok, Err, OnErr, arith, refl}
use Rattle.history_saver.specs.Folders.{FolderView}
use Rattle.history_saver.proofs.files.SegmentFilesSegmentFolder.keep.Goals as goal

-- of a folder of which nothing is known as many are left as it may be
some_left : (n : ℕ) → (m : ℕ) × (n ≤ m) × (◌≡◌ {A = Option FolderView} None None)
some_left n = (n, omega arith, refl)

after_error : {T E P : Type 0} (r : Result T E) → P → OnErr r P
after_error (Ok value) p = tt
after_error (Err error) p = p

pub returns-in_err-remove_oldest-clause-left : goal.returns-in_err-remove_oldest-clause-left
returns-in_err-remove_oldest-clause-left g c = after_error c.from_residual.result (some_left c.args.count)
