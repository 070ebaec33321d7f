mod Feeds
mod InOrder
mod Works
mod RunningThreads
mod AllPlacesRead
mod EndedRun
