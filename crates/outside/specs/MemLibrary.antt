-- What libraries over memory show of themselves.
use Rattle.std.specs.Prelude.{ℕ, List}
use Rattle.outside.specs.declared.memory.MemFile.{MemFile}
use Rattle.outside.specs.declared.memory.MemLibrary.{MemLibrary}
use Rattle.outside.specs.declared.memory.SureLibrary.{SureLibrary}

-- the files, of which the first of a name counts
abbrev pub library_files : MemLibrary → List MemFile
library_files library = library.files

-- the numbers of the calls that fail
abbrev pub library_fail : MemLibrary → List ℕ
library_fail library = library.fail

-- how many loads were answered, out of memory aside
abbrev pub library_calls : MemLibrary → ℕ
library_calls library = library.calls

-- how many loads failed
abbrev pub library_faults : MemLibrary → ℕ
library_faults library = library.faults

-- the name of the last load that failed, or the empty text
abbrev pub library_failed : MemLibrary → List ℕ
library_failed library = library.failed

-- the files of a library that never fails
abbrev pub sure_files : SureLibrary → List MemFile
sure_files library = library.files
