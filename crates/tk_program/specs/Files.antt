-- The result of reading files by their names.
use Rattle.std.specs.Prelude.{◌≡◌, ℕ, ◌<◌, List, [], length, map, Option, Some, None, ◌⊎◌, slice_index_or}
use Rattle.std.specs.Borrow.{Bor}
use Rattle.std.specs.List.{AllZip}
use Rattle.std.specs.Global.{Vec}
use Rattle.tk_report.specs.declared.fault.Fault.{Fault}
use Rattle.tk_report.specs.declared.fault.Fault.TheVariants as faults
use Rattle.tk_report.specs.Reading.{IsReadToEnd, ReadFailed}

-- of a folder and its files: the result of opening each name, the bytes of a file that are known,
-- and the results of its reads
module _ {D F : Type 0} (open_gives : D → List ℕ → Option F → Type 0)
    (remaining : F → Option (List ℕ)) (read_gives : F → Option ℕ → F → Type 0) (folder : D) where
  -- a file of this name was opened, and these bytes were read from it: up to its end or up to the
  -- most bytes that are ever read
  abbrev pub IsReadFrom : List ℕ → List ℕ → Type 0
  IsReadFrom name text = (file : F) × (file' : F) × open_gives folder name (Some file)
      × IsReadToEnd (remaining file) (remaining file') text

  -- it can't be opened, or a read of it failed
  abbrev pub IsUnread : List ℕ → Type 0
  IsUnread name = open_gives folder name None
      ⊎ ((file : F) × (file' : F) × open_gives folder name (Some file) × ReadFailed read_gives file')

  -- why a file isn't read to its end, or that an allocation failed
  abbrev pub StopsFile : List ℕ → Fault → Type 0
  StopsFile name faults.Read = IsUnread name
  StopsFile name faults.Memory = Unit {0}
  StopsFile name (faults.Script error) = ⊥
  StopsFile name (faults.Stamps error) = ⊥
  StopsFile name (faults.Trace error) = ⊥
  StopsFile name (faults.Write written) = ⊥

  -- each of these files was read, in their order
  abbrev pub AreReadFrom : List (Bor (List ℕ)) → List (Vec ℕ) → Type 0
  AreReadFrom names texts = AllZip (λ name text. IsReadFrom name.now text.items) names texts

  -- why files aren't all read: one of them, at this place, isn't; or an allocation failed
  abbrev pub StopsFiles : List (Bor (List ℕ)) → Fault → Type 0
  StopsFiles names fault = (fault ≡ faults.Memory)
      ⊎ ((place : ℕ) × (place < length names)
      × StopsFile (slice_index_or (map (λ name. name.now) names) place []) fault)
