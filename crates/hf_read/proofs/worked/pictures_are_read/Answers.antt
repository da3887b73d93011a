use Rattle.std.proofs.Common.{refl}
use Rattle.hf_read.specs.WorkedFiles.{file_picture, file_pictures, file_sized, file_free_behind, file_empty_idat, file_long_sizes, file_empty_item, file_hidden_text}
use Rattle.hf_read.specs.WorkedStores.{store_empty_item, store_hidden_text}
use Rattle.hf_worked.specs.WorkedStores.{one_picture, two_pictures, sized_picture}
use Rattle.hf_read.proofs.Opened.{reads}
use Rattle.hf_read.proofs.worked.pictures_are_read.Goals as goal

pub returns-clause-picture : goal.returns-clause-picture
unfolding reads file_picture one_picture
returns-clause-picture c = refl

pub returns-clause-pictures : goal.returns-clause-pictures
unfolding reads file_pictures two_pictures
returns-clause-pictures c = refl

pub returns-clause-sized : goal.returns-clause-sized
unfolding reads file_sized sized_picture
returns-clause-sized c = refl

pub returns-clause-free_behind : goal.returns-clause-free_behind
unfolding reads file_free_behind one_picture
returns-clause-free_behind c = refl

pub returns-clause-empty_idat : goal.returns-clause-empty_idat
unfolding reads file_empty_idat one_picture
returns-clause-empty_idat c = refl

pub returns-clause-long_sizes : goal.returns-clause-long_sizes
unfolding reads file_long_sizes one_picture
returns-clause-long_sizes c = refl

pub returns-clause-empty_item : goal.returns-clause-empty_item
unfolding reads file_empty_item store_empty_item
returns-clause-empty_item c = refl

pub returns-clause-hidden_text : goal.returns-clause-hidden_text
unfolding reads file_hidden_text store_hidden_text
returns-clause-hidden_text c = refl
